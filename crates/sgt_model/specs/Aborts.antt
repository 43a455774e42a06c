-- Why transactions are aborted.
use Rattle.std.specs.Prelude.{◌≡◌, ℕ, List, [], ◌∷◌, Option, Some, None}
use Rattle.sgt_model.specs.declared.event.Event.{Event}
use Rattle.sgt_model.specs.declared.event.Event.TheVariants.{Step, Quit}
use Rattle.sgt_model.specs.declared.event.Event.TheVariants as event
use Rattle.sgt_model.specs.declared.reply.Reply.{Reply}
use Rattle.sgt_model.specs.declared.reply.Reply.TheVariants as reply
use Rattle.sgt_model.specs.declared.reply.Cause.{Cause}
use Rattle.sgt_model.specs.declared.reply.Cause.TheVariants as cause
use Rattle.sgt_model.specs.declared.entry.Entry.{Entry}
use Rattle.sgt_model.specs.declared.kind.Kind.{Kind}
use Rattle.sgt_model.specs.declared.kind.Kind.TheVariants.{Look, Store}
use Rattle.sgt_model.specs.Contents.{Key}
use Rattle.sgt_model.specs.Paths.{Orders}
use Rattle.sgt_model.specs.Traces.{Next, Looks, Puts, Ends, Raises}
use Rattle.sgt_model.specs.Accesses.{Access, access_of}
use Rattle.sgt_model.specs.Fates.{subject}
use Rattle.sgt_model.specs.Falls.{Falls}
use Rattle.sgt_model.specs.Pairs.{Pair}
use Rattle.sgt_model.specs.Closes.{Closes}
use Rattle.sgt_model.specs.Configurations.{Configuration}
use Rattle.sgt_model.specs.Progress.{next_of, requested}

-- what comes next is an access of that kind of the key
abbrev pub Wants : Next → Key → Kind → Type 0
Wants (Looks j) k kind = (k ≡ j) × (kind ≡ Look)
Wants (Puts j v) k kind = (k ≡ j) × (kind ≡ Store)
Wants (Ends answers) k kind = ⊥
Wants (Raises code) k kind = ⊥

-- an access is t's, of that kind of the key, whatever the value
abbrev pub IsAccessBy : Option Access → ℕ → Key → Kind → Type 0
IsAccessBy None t k kind = ⊥
IsAccessBy (Some a) t k kind = (a.by ≡ t) × (a.key ≡ k) × (a.kind ≡ kind)

-- t's access that is next would close this path (`cycle`) to a cycle; and with that access added as an entry, no serial order of the
-- path's members agrees with all edges among them
pub record ClosesCycle (past : List Entry) (t : ℕ) (next : Next) (cycle : List ℕ) : Type 0 where
  pub rest : List ℕ
  pub is : cycle ≡ t ∷ rest
  pub key : Key
  pub kind : Kind
  pub wants : Wants next key kind
  pub closes : Closes past t key kind rest
  pub no_order : (e : Entry) → IsAccessBy (access_of e) t key kind → (order : List ℕ) → Orders (Pair (e ∷ past)) cycle order → ⊥

-- the cause that a reply names is true: the step would close that cycle, the procedure raises that code, or the caller
-- aborts it
abbrev pub CauseHolds : Configuration → List Entry → Event → Cause → Type 0
CauseHolds s past (Step t) (cause.Cycle cycle) = ClosesCycle past t (next_of s past t) cycle
CauseHolds s past (event.Access t d) (cause.Cycle cycle) = ClosesCycle past t (requested d) cycle
CauseHolds s past (Step t) (cause.Asked code) = next_of s past t ≡ Raises code
CauseHolds s past (Quit t) cause.Quit = Unit {0}
CauseHolds s past _ _ = ⊥

-- an abort has its cause, and so has a refusal: the procedure raises that code. Exactly those that read from the aborted
-- transaction are aborted in cascade
abbrev pub ReplyIsJustified : Configuration → List Entry → Event → Reply → Type 0
ReplyIsJustified s past event (reply.Aborted why fell) = CauseHolds s past event why × Falls past (subject event) fell
ReplyIsJustified s past event (reply.Refused code fell) = (next_of s past (subject event) ≡ Raises code) × Falls past (subject event) fell
ReplyIsJustified s past event _ = Unit {0}

-- each abort of a history has its cause
abbrev pub AbortsHaveCause : Configuration → List Entry → Type 0
AbortsHaveCause s [] = Unit {0}
AbortsHaveCause s (e ∷ past) = AbortsHaveCause s past × ReplyIsJustified s past e.event e.reply
