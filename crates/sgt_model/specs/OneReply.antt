-- How many replies are legal for an event: always one and, except for the cycle that a rejected access names, no other.
use Rattle.std.specs.Prelude.{◌≡◌, ℕ, ◌⊎◌, List}
use Rattle.sgt_model.specs.declared.event.Event.{Event}
use Rattle.sgt_model.specs.declared.reply.Reply.{Reply}
use Rattle.sgt_model.specs.declared.reply.Reply.TheVariants as reply
use Rattle.sgt_model.specs.declared.reply.Cause.TheVariants as cause
use Rattle.sgt_model.specs.declared.entry.Entry.{Entry}
use Rattle.sgt_model.specs.Configurations.{Configuration}
use Rattle.sgt_model.specs.Legality.{LegalReply}

-- both abort for a cycle, each with its own, and the same transactions are aborted in cascade
pub record DifferInCycle (r q : Reply) : Type 0 where
  pub cycle : List ℕ
  pub other_path : List ℕ
  pub fell : List ℕ
  pub one : r ≡ reply.Aborted (cause.Cycle cycle) fell
  pub other : q ≡ reply.Aborted (cause.Cycle other_path) fell

-- the same reply; or, if both abort for a cycle, the same except for the cycle
abbrev pub SameButCycle : Reply → Reply → Type 0
SameButCycle r q = (r ≡ q) ⊎ DifferInCycle r q

-- after any entries, two replies that are legal for one event are the same except for the cycle
abbrev pub RepliesAreUnique : Type 0
RepliesAreUnique = (s : Configuration) (past : List Entry) (event : Event) (r q : Reply) → LegalReply s past event r → LegalReply s past event q → SameButCycle r q

-- after any entries, some reply is legal for each event
abbrev pub SomeReplyIsLegal : Type 0
SomeReplyIsLegal = (s : Configuration) (past : List Entry) (event : Event) → (r : Reply) × LegalReply s past event r
