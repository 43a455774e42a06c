-- How transactions end: which events end one, and what the end of one does to the state.
use Rattle.std.specs.Prelude.{◌≡◌, ℕ, ◌+◌, ◌≤◌, true, false, cond, nat_eq, List, length, Some}
use Rattle.sgt_model.specs.declared.limits.Asks.TheVariants.{AtStep, AtCommit}
use Rattle.sgt_model.specs.declared.limits.Asks.{Asks}
use Rattle.sgt_model.specs.declared.event.Event.{Event}
use Rattle.sgt_model.specs.declared.event.Event.TheVariants.{Start, Step, Access, Commit, Quit}
use Rattle.sgt_model.specs.declared.event.Request.{Request}
use Rattle.sgt_model.specs.Progress.{requested, is_fit}
use Rattle.sgt_model.specs.declared.kind.Kind.{Kind}
use Rattle.sgt_model.specs.declared.kind.Kind.TheVariants.{Look, Store}
use Rattle.sgt_model.specs.declared.reply.Cause.TheVariants as cause
use Rattle.sgt_model.specs.declared.reply.Fate.{Fate}
use Rattle.sgt_model.specs.declared.reply.Reply.{Reply}
use Rattle.sgt_model.specs.Contents.{Key}
use Rattle.sgt_model.specs.Traces.{Next, Looks, Puts, Ends, Raises}
use Rattle.sgt_model.specs.Left.{next_left}
use Rattle.sgt_model.specs.Questions.{is_ending}
use Rattle.sgt_model.specs.State.{State}
use Rattle.sgt_model.specs.Blocks.{Blocks}
use Rattle.sgt_model.specs.Changes.{Removes}
use Rattle.sgt_model.specs.CallEffects.{AbortEffect, CallEffect}
use Rattle.sgt_model.specs.Configurations.{Rules}
use Rattle.sgt_model.specs.Paths.{Member}
use Rattle.sgt_cycle.specs.Path.{IsPath}
use Rattle.sgt_sched.specs.Steps.{IsUnended}

-- only t is removed from the state, with this fate; its values are dropped
pub record EndsAborted (t : ℕ) (fate : Fate) (before after : State) : Type 0 where
  pub removes : Removes (λ u. nat_eq t u) before after
  pub settled : (k : Key) → after.settled k ≡ before.settled k
  pub fates : (u : ℕ) → after.fates u ≡ cond (nat_eq t u) (Some fate) (before.fates u)

-- t is aborted, because a path leads from it to one of these
abbrev pub AbortsByCycle : ℕ → List ℕ → State → Reply → State → Type 0
AbortsByCycle t targets before r after = (cycle : List ℕ) × IsPath before.pairs t targets cycle × AbortEffect t (cause.Cycle cycle) before r after

-- some path blocks the access
abbrev pub IsBlocked : State → ℕ → Key → Kind → Type 0
IsBlocked c t k kind = (rest : List ℕ) × Blocks c t k kind rest

-- a code is reported at the step
abbrev pub AtItsStep : Asks → Type 0
AtItsStep AtStep = Unit {0}
AtItsStep AtCommit = ⊥

-- a code is reported at the commit
abbrev pub AtItsCommit : Asks → Type 0
AtItsCommit AtStep = ⊥
AtItsCommit AtCommit = Unit {0}

-- t has no predecessor
abbrev pub IsFirst : ℕ → State → Type 0
IsFirst t c = (u : ℕ) → c.pairs u t ≡ true → ⊥

-- a step ends t, which is live, by what its procedure does next: it raises a code, and codes are reported at the step; or it
-- wants an access that is blocked
abbrev pub StepEnds : Asks → ℕ → Next → State → Type 0
StepEnds asks t (Looks k) c = IsBlocked c t k Look
StepEnds asks t (Puts k v) c = IsBlocked c t k Store
StepEnds asks t (Ends answers) c = ⊥
StepEnds asks t (Raises code) c = AtItsStep asks

-- an access that the caller asks for ends t, which is live: its procedure is at its end, and the access is blocked
abbrev pub RequestEnds : Asks → ℕ → Request → Next → State → Type 0
RequestEnds asks t d (Looks k) c = ⊥
RequestEnds asks t d (Puts k v) c = ⊥
RequestEnds asks t d (Ends answers) c = (is_fit d ≡ true) × StepEnds asks t (requested d) c
RequestEnds asks t d (Raises code) c = ⊥

-- a commit ends t, which is live, by what its procedure does next: t has no predecessor, and either its procedure is at its
-- end, or it raises a code and codes are reported at commit
abbrev pub CommitEnds : Asks → ℕ → Next → State → Type 0
CommitEnds asks t (Looks k) c = ⊥
CommitEnds asks t (Puts k v) c = ⊥
CommitEnds asks t (Ends answers) c = IsFirst t c
CommitEnds asks t (Raises code) c = AtItsCommit asks × IsFirst t c

-- the event ends a live transaction, when codes are reported as `asks` says
abbrev pub EndsOne : Asks → Event → State → Type 0
EndsOne asks (Start p args) c = ⊥
EndsOne asks (Step t) c = IsUnended c t × StepEnds asks t (next_left (c.left t)) c
EndsOne asks (Access t d) c = IsUnended c t × RequestEnds asks t d (next_left (c.left t)) c
EndsOne asks (Commit t) c = IsUnended c t × CommitEnds asks t (next_left (c.left t)) c
EndsOne asks (Quit t) c = IsUnended c t

-- a reply ends a live transaction exactly if this holds
abbrev pub EndsWhere : Reply → Type 0 → Type 0
EndsWhere r X = (X → is_ending r ≡ true) × ((X → ⊥) → is_ending r ≡ false)

-- how many are live afterwards: at most one more, and fewer if the reply ends one
pub record Counts (r : Reply) (before after : State) : Type 0 where
  pub most : length after.live ≤ length before.live + 1
  pub fewer : is_ending r ≡ true → length after.live + 1 ≤ length before.live

-- for every call, the reply ends a live transaction exactly if the event does
abbrev pub RepliesEndWhere : Type 0
RepliesEndWhere = (rules : Rules) (event : Event) (before : State) (r : Reply) (after : State) → CallEffect rules event before r after
    → EndsWhere r (EndsOne rules.limits.asks event before)

-- if the live ones are those that were started and have not ended, that many are live afterwards
abbrev pub CallsCount : Type 0
CallsCount = (rules : Rules) (event : Event) (before : State) (r : Reply) (after : State)
    → ((t : ℕ) → IsUnended before t → Member t before.live) → CallEffect rules event before r after → Counts r before after
