-- What becomes of a transaction while it is the only live one.
use Rattle.std.specs.Prelude.{◌≡◌, ℕ, Bool, true, false, ◌⊎◌, List, [], ◌∷◌, ◌++◌, Option, Some, None}
use Rattle.sgt_model.specs.declared.event.Event.{Event}
use Rattle.sgt_model.specs.declared.event.Event.TheVariants.{Step, Access, Commit}
use Rattle.sgt_model.specs.declared.event.Request.{Request}
use Rattle.sgt_model.specs.declared.reply.Reply.{Reply}
use Rattle.sgt_model.specs.declared.reply.Reply.TheVariants as reply
use Rattle.sgt_model.specs.declared.reply.Cause.TheVariants as cause
use Rattle.sgt_model.specs.declared.reply.Fate.{Fate}
use Rattle.sgt_model.specs.declared.reply.Fate.TheVariants as fate
use Rattle.sgt_model.specs.declared.entry.Entry.{Entry}
use Rattle.sgt_model.specs.Fates.{live, fate_of}
use Rattle.sgt_model.specs.Configurations.{Configuration}
use Rattle.sgt_model.specs.Questions.{started_in}
use Rattle.sgt_model.specs.Legality.{Legal, LegalReply}
use Rattle.sgt_model.specs.Laws.{InEach}

-- t is live, and no other transaction is
pub record IsAlone (past : List Entry) (t : ℕ) : Type 0 where
  pub is_live : live past t ≡ true
  pub only : (u : ℕ) → live past u ≡ true → u ≡ t

-- nothing is live
abbrev pub NoneLive : List Entry → Type 0
NoneLive past = (u : ℕ) → live past u ≡ false

-- the event is a step or a commit of t
abbrev pub IsStepOrCommitOf : Event → ℕ → Type 0
IsStepOrCommitOf event t = (event ≡ Step t) ⊎ (event ≡ Commit t)

-- the event is one of t's, and no `Quit`: a step, a commit, or an access on which its caller decided
abbrev pub IsNoQuitOf : Event → ℕ → Type 0
IsNoQuitOf event t = IsStepOrCommitOf event t ⊎ ((d : Request) × (event ≡ Access t d))

-- each entry is one of t's, and no `Quit`
abbrev pub AreNoQuitsOf : ℕ → List Entry → Type 0
AreNoQuitsOf t [] = Unit {0}
AreNoQuitsOf t (e ∷ before) = IsNoQuitOf e.event t × AreNoQuitsOf t before

-- a reply that waits, or that aborts for a cycle
abbrev pub is_hindered : Reply → Bool
is_hindered (reply.Waits u) = true
is_hindered (reply.Aborted (cause.Cycle cycle) fell) = true
is_hindered _ = false

-- the only live transaction never waits, and is never aborted for a cycle, by the accesses of its caller neither
abbrev pub AloneIsNotAborted : Type 0
AloneIsNotAborted = InEach (λ s past. (t : ℕ) → IsAlone past t → (event : Event) → IsNoQuitOf event t → (r : Reply) → LegalReply s past event r → is_hindered r ≡ false)

-- it is live, has committed, or has aborted with a code of its own: not for a cycle, in cascade, or by its caller
abbrev pub IsByItself : Option Fate → Type 0
IsByItself None = Unit {0}
IsByItself (Some fate.Committed) = Unit {0}
IsByItself (Some (fate.Aborted (cause.Asked code))) = Unit {0}
IsByItself (Some _) = ⊥

-- as long as all events are its own, and none of them is a `Quit`, the only live transaction is live, has committed, or
-- has aborted with a code of its own
abbrev pub AloneEndsByItself : Type 0
AloneEndsByItself = InEach (λ s past. (t : ℕ) → IsAlone past t → (later : List Entry) → AreNoQuitsOf t later → Legal s (later ++ past) → IsByItself (fate_of (later ++ past) t))

-- a transaction that is started when nothing is live is the only live one
abbrev pub StartedAlone : Type 0
StartedAlone = (s : Configuration) (past : List Entry) (e : Entry) → Legal s (e ∷ past) → NoneLive past → (t : ℕ) → started_in e.event e.reply ≡ Some t → IsAlone (e ∷ past) t
