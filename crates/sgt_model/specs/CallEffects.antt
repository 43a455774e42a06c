-- What a call replies and does, as a relation of the states before and after.
use Rattle.std.specs.Prelude.{◌≡◌, ℕ, ℤ, Bool, true, false, ◌⊎◌, nat_lt, List, ◌∷◌, length, Option, Some, None}
use Rattle.sgt_model.specs.declared.event.Event.{Event}
use Rattle.sgt_model.specs.declared.event.Event.TheVariants.{Start, Step, Access, Commit, Quit}
use Rattle.sgt_model.specs.declared.event.Request.{Request}
use Rattle.sgt_model.specs.declared.reply.Reply.{Reply}
use Rattle.sgt_model.specs.declared.reply.Reply.TheVariants as reply
use Rattle.sgt_model.specs.declared.reply.Cause.{Cause}
use Rattle.sgt_model.specs.declared.reply.Cause.TheVariants as cause
use Rattle.sgt_model.specs.declared.reply.Fate.{Fate}
use Rattle.sgt_model.specs.declared.kind.Kind.{Kind}
use Rattle.sgt_model.specs.declared.kind.Kind.TheVariants.{Look, Store}
use Rattle.sgt_model.specs.declared.limits.Asks.{Asks}
use Rattle.sgt_model.specs.declared.limits.Asks.TheVariants.{AtStep, AtCommit}
use Rattle.sgt_model.specs.Contents.{Key}
use Rattle.sgt_model.specs.Syntax.{ProcedureText}
use Rattle.sgt_model.specs.Traces.{Next, Looks, Puts, Ends, Raises}
use Rattle.sgt_model.specs.Paths.{IsLeastPredecessor, HasNoPredecessor}
use Rattle.sgt_model.specs.Configurations.{Rules}
use Rattle.sgt_model.specs.Progress.{requested, is_fit}
use Rattle.sgt_model.specs.StartReply.{start_reply}
use Rattle.sgt_model.specs.Left.{next_left}
use Rattle.sgt_model.specs.LiveLeft.{left_if}
use Rattle.sgt_model.specs.State.{State, PairIn}
use Rattle.sgt_model.specs.Blocks.{Blocks}
use Rattle.sgt_model.specs.Found.{found}
use Rattle.sgt_model.specs.FallsIn.{FallsIn}
use Rattle.sgt_model.specs.Changes.{LooksAt, StoresInto, Starts, Settles, Drops}

-- nothing changes; there is only the reply
pub record Stays (answer : Reply) (before : State) (r : Reply) (after : State) : Type 0 where
  pub reply : r ≡ answer
  pub same : after ≡ before

-- what the calls on a transaction share: nothing happens if it was not started or has ended; else the effect on a live one
abbrev pub IfOpen : Bool → Option Fate → State → Reply → State → Type 0 → Type 0
IfOpen false ended before r after if_live = Stays reply.Unknown before r after
IfOpen true (Some f) before r after if_live = Stays (reply.Over f) before r after
IfOpen true None before r after if_live = if_live

-- a step

-- t and those aborted in cascade are undone for this cause, whatever is reported
pub record Undo (t : ℕ) (why : Cause) (fell : List ℕ) (before after : State) : Type 0 where
  pub falls : FallsIn before t fell
  pub drops : Drops t why fell before after

-- t is aborted, with those aborted in cascade
pub record AbortEffect (t : ℕ) (why : Cause) (before : State) (r : Reply) (after : State) : Type 0 where
  pub fell : List ℕ
  pub undo : Undo t why fell before after
  pub reply : r ≡ reply.Aborted why fell

-- an access that is blocked is rejected: t is aborted, and the reply names the cycle
pub record CycleAbortEffect (t : ℕ) (k : Key) (kind : Kind) (before : State) (r : Reply) (after : State) : Type 0 where
  pub rest : List ℕ
  pub blocks : Blocks before t k kind rest
  pub aborts : AbortEffect t (cause.Cycle (t ∷ rest)) before r after

-- a read that nothing blocks is made
pub record MakesLook (t : ℕ) (k : Key) (before : State) (r : Reply) (after : State) : Type 0 where
  pub free : (rest : List ℕ) → Blocks before t k Look rest → ⊥
  pub reply : r ≡ reply.Looked k (found before k)
  pub looks : LooksAt t k before after

-- a write that nothing blocks is made
pub record MakesStore (t : ℕ) (k : Key) (v : Option ℤ) (before : State) (r : Reply) (after : State) : Type 0 where
  pub free : (rest : List ℕ) → Blocks before t k Store rest → ⊥
  pub reply : r ≡ reply.Wrote k v
  pub stores : StoresInto t k v before after

-- a step that raises a code is answered at once, or left to the commit
abbrev pub RaisedStepOn : Asks → ℕ → ℕ → State → Reply → State → Type 0
RaisedStepOn AtStep t code before r after = AbortEffect t (cause.Asked code) before r after
RaisedStepOn AtCommit t code before r after = Stays reply.Ended before r after

-- a step of a live transaction, by what its procedure does next
abbrev pub StepOn : Asks → ℕ → Next → State → Reply → State → Type 0
StepOn asks t (Looks k) before r after = CycleAbortEffect t k Look before r after ⊎ MakesLook t k before r after
StepOn asks t (Puts k v) before r after = CycleAbortEffect t k Store before r after ⊎ MakesStore t k v before r after
StepOn asks t (Ends answers) before r after = Stays reply.Ended before r after
StepOn asks t (Raises code) before r after = RaisedStepOn asks t code before r after

-- a step of any transaction
abbrev pub StepEffect : Asks → ℕ → State → Reply → State → Type 0
StepEffect asks t before r after = IfOpen (nat_lt t before.start_count) (before.fates t) before r after (StepOn asks t (next_left (before.left t)) before r after)

-- an access on which the caller decides

-- what is written has to be a value, or none
abbrev pub IfFit : Bool → State → Reply → State → Type 0 → Type 0
IfFit true before r after if_fit = if_fit
IfFit false before r after if_fit = Stays reply.BadArgs before r after

-- such an access of a live transaction, whose procedure has to be at its end
abbrev pub RequestOn : Asks → ℕ → Request → Next → State → Reply → State → Type 0
RequestOn asks t d (Ends answers) before r after = IfFit (is_fit d) before r after (StepOn asks t (requested d) before r after)
RequestOn asks t d (Looks k) before r after = Stays reply.NotEnded before r after
RequestOn asks t d (Puts k v) before r after = Stays reply.NotEnded before r after
RequestOn asks t d (Raises code) before r after = Stays reply.NotEnded before r after

-- such an access of any transaction
abbrev pub RequestEffect : Asks → ℕ → Request → State → Reply → State → Type 0
RequestEffect asks t d before r after = IfOpen (nat_lt t before.start_count) (before.fates t) before r after (RequestOn asks t d (next_left (before.left t)) before r after)

-- a commit

-- t must wait for its least predecessor
pub record WaitsOn (t : ℕ) (before : State) (r : Reply) (after : State) : Type 0 where
  pub on : ℕ
  pub least : IsLeastPredecessor (PairIn before) t on
  pub stays : Stays (reply.Waits on) before r after

-- t has no predecessor, and commits with its answers
pub record CommitsIn (t : ℕ) (answers : List ℤ) (before : State) (r : Reply) (after : State) : Type 0 where
  pub first : HasNoPredecessor (PairIn before) t
  pub reply : r ≡ reply.Committed answers
  pub settles : Settles t before after

-- t has no predecessor, and is refused with its code
pub record RefusesIn (t code : ℕ) (before : State) (r : Reply) (after : State) : Type 0 where
  pub first : HasNoPredecessor (PairIn before) t
  pub fell : List ℕ
  pub undo : Undo t (cause.Asked code) fell before after
  pub reply : r ≡ reply.Refused code fell

-- a commit of a transaction that raises a code: the code was reported at its step, or it is reported now, and the commit
-- waits as every commit does
abbrev pub RaisedCommitOn : Asks → ℕ → ℕ → State → Reply → State → Type 0
RaisedCommitOn AtStep t code before r after = Stays reply.NotEnded before r after
RaisedCommitOn AtCommit t code before r after = WaitsOn t before r after ⊎ RefusesIn t code before r after

-- a commit of a live transaction, by what its procedure does next
abbrev pub CommitOn : Asks → ℕ → Next → State → Reply → State → Type 0
CommitOn asks t (Ends answers) before r after = WaitsOn t before r after ⊎ CommitsIn t answers before r after
CommitOn asks t (Looks k) before r after = Stays reply.NotEnded before r after
CommitOn asks t (Puts k v) before r after = Stays reply.NotEnded before r after
CommitOn asks t (Raises code) before r after = RaisedCommitOn asks t code before r after

-- a commit of any transaction
abbrev pub CommitEffect : Asks → ℕ → State → Reply → State → Type 0
CommitEffect asks t before r after = IfOpen (nat_lt t before.start_count) (before.fates t) before r after (CommitOn asks t (next_left (before.left t)) before r after)

-- a quit

-- a `Quit` of any transaction
abbrev pub QuitEffect : ℕ → State → Reply → State → Type 0
QuitEffect t before r after = IfOpen (nat_lt t before.start_count) (before.fates t) before r after (AbortEffect t cause.Quit before r after)

-- a start

-- the one reply to a start, from the state
abbrev pub start_answer : Rules → State → ℕ → List ℤ → Reply
start_answer rules c p args = start_reply rules c.start_count (length c.live) p args

-- what a start with this reply does
abbrev pub StartOn : Option ProcedureText → List ℤ → State → Reply → State → Type 0
StartOn p args before (reply.Started t) after = Starts (left_if p args) before after
StartOn p args before _ after = after ≡ before

-- any start
pub record StartEffect (rules : Rules) (p : ℕ) (args : List ℤ) (before : State) (r : Reply) (after : State) : Type 0 where
  pub reply : r ≡ start_answer rules before p args
  pub does : StartOn (rules.procedures p) args before r after

-- what the call of an event replies and does
abbrev pub CallEffect : Rules → Event → State → Reply → State → Type 0
CallEffect rules (Start p args) before r after = StartEffect rules p args before r after
CallEffect rules (Step t) before r after = StepEffect rules.limits.asks t before r after
CallEffect rules (Access t d) before r after = RequestEffect rules.limits.asks t d before r after
CallEffect rules (Commit t) before r after = CommitEffect rules.limits.asks t before r after
CallEffect rules (Quit t) before r after = QuitEffect t before r after
