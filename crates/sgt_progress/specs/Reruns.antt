-- The committed and refused calls, given again one after another: by the rules of legality, and not only over a plain map.
use Rattle.std.specs.Prelude.{◌≡◌, ℕ, ◌≤◌, ◌⊎◌, List, [], ◌∷◌, map}
use Rattle.sgt_model.specs.declared.entry.Entry.{Entry}
use Rattle.sgt_model.specs.Contents.{Key}
use Rattle.sgt_model.specs.Values.{settled}
use Rattle.sgt_model.specs.Configurations.{Configuration}
use Rattle.sgt_model.specs.Progress.{Call}
use Rattle.sgt_model.specs.Replay.{reported_calls, reported}
use Rattle.sgt_model.specs.Legality.{Legal}
use Rattle.sgt_model.specs.Laws.{InEach}
use Rattle.sgt_progress.specs.Alone.{NoneLive, IsAlone, IsNoQuitOf}

-- the same answers and codes were reported, and the committed databases are the same
pub record ReportTheSame (s : Configuration) (one other : List Entry) : Type 0 where
  pub reported_same : reported one ≡ reported other
  pub same_database : (k : Key) → settled s.opening one k ≡ settled s.opening other k

-- the committed and refused calls in reply order, each with its caller's accesses, decide what was reported and what is committed, however they were interleaved
abbrev pub CallsDecide : Type 0
CallsDecide = (s : Configuration) (one other : List Entry) → Legal s one → Legal s other → reported_calls one ≡ reported_calls other → ReportTheSame s one other

-- one after another: at each entry nothing is live, or the event is a step, a commit or a caller's access of the only live transaction
abbrev pub IsOneByOne : List Entry → Type 0
IsOneByOne [] = Unit {0}
IsOneByOne (e ∷ past) = IsOneByOne past × (NoneLive past ⊎ ((t : ℕ) × IsAlone past t × IsNoQuitOf e.event t))

-- a legal history that commits or refuses these calls, each with its caller's accesses, and no others, one after another
pub record Rerun (s : Configuration) (calls : List Call) : Type 0 where
  pub again : List Entry
  pub legal : Legal s again
  pub one_by_one : IsOneByOne again
  pub none_live : NoneLive again
  pub same_calls : reported_calls again ≡ calls

-- the committed and refused calls of each legal history can be requested again, one after another, each with its
-- caller's accesses. Each gets the same answers or code, each such read returns the same value, and the same is
-- committed
abbrev pub RerunsAgree : Type 0
RerunsAgree = InEach (λ s past. 1 ≤ s.rules.limits.live → (r : Rerun s (reported_calls past)) × ReportTheSame s r.again past)

-- such a history is the only one: whatever legal replies the same events get, they are these
abbrev pub OneByOneIsForced : Type 0
OneByOneIsForced = (s : Configuration) (again other : List Entry) → IsOneByOne again → Legal s again → Legal s other
    → map (λ (e : Entry). e.event) other ≡ map (λ (e : Entry). e.event) again → other ≡ again
