-- What a scheduler is made of, and what it holds.
use Rattle.std.specs.Prelude.{◌≡◌, ◌<◌, ◌≤◌, ◌↔◌, ℕ, ℤ, Bool, true, List, length, Option, Some, None, slice_index_or}
use Rattle.sgt_model.specs.declared.limits.Limits.{Limits}
use Rattle.sgt_model.specs.declared.reply.Fate.{Fate}
use Rattle.sgt_model.specs.Bounds.{AreInRange}
use Rattle.sgt_model.specs.Contents.{Key}
use Rattle.sgt_model.specs.Syntax.{ProcedureText}
use Rattle.sgt_model.specs.Configurations.{Rules, rules_from, procedure_at}
use Rattle.sgt_model.specs.Paths.{Rising}
use Rattle.sgt_model.specs.AccessList.{ListedAccess}
use Rattle.sgt_sched.specs.LiveProgress.{Progress, left_kept}
use Rattle.sgt_model.specs.State.{State}
use Rattle.sgt_model.specs.Soundness.{Sound}
use Rattle.sgt_sched.specs.LiveList.{numbers, progress_at}

-- the procedures and limits, the three layers, the live transactions with their progress, who read from whom (source and
-- reader), and how each started transaction ended, if it did
pub record SchedulerView (R A G : Type 0) : Type 0 where
  pub procedures : List ProcedureText
  pub limits : Limits
  pub records : R
  pub accesses : A
  pub graph : G
  pub live : List (ℕ × Progress)
  pub read_from : List (ℕ × ℕ)
  pub fates : List (Option Fate)

-- of these parts
abbrev pub view : {R A G : Type 0} → List ProcedureText → Limits → R → A → G → List (ℕ × Progress) → List (ℕ × ℕ) → List (Option Fate)
    → SchedulerView R A G
view procedures limits records accesses graph live read_from fates = record {
  procedures = procedures;
  limits = limits;
  records = records;
  accesses = accesses;
  graph = graph;
  live = live;
  read_from = read_from;
  fates = fates;
}

-- the rules that it follows
abbrev pub rules_of : {R A G : Type 0} → SchedulerView R A G → Rules
rules_of p = rules_from p.procedures p.limits

-- how t ended, if it did
abbrev pub fate_at : List (Option Fate) → ℕ → Option Fate
fate_at fates t = slice_index_or fates t None

-- a transaction runs one of these procedures, which its number names
abbrev pub IsAlong : List ProcedureText → Progress → Type 0
IsAlong programs c = procedure_at programs c.procedure ≡ Some c.cursor.0

-- by the views of the layers: the chain and the committed value of each key for records, the list for accesses, the nodes and
-- edges for a graph
module _ {R A G : Type 0} (chain : R → Key → List (ℕ × Option ℤ)) (settled : R → Key → Option ℤ) (list : A → List ListedAccess)
    (nodes : G → ℕ → Bool) (pairs : G → ℕ → ℕ → Bool) where
  -- the state
  abbrev pub state_of : SchedulerView R A G → State
  state_of p = record {
    live = numbers p.live;
    nodes = nodes p.graph;
    pairs = pairs p.graph;
    accesses = list p.accesses;
    chain = chain p.records;
    settled = settled p.records;
    read_from = p.read_from;
    fates = fate_at p.fates;
    start_count = length p.fates;
    left = λ t. left_kept (progress_at p.live t);
  }

  -- the invariant: the limits are in their ranges and respected; the state is sound; the live ones rise; the graph's
  -- nodes are those that were started and have not ended; and each runs its procedure
  pub record IsKept (p : SchedulerView R A G) : Type 0 where
    pub in_range : AreInRange p.limits
    pub begun : length p.fates ≤ p.limits.begins
    pub sound : Sound p.limits.live (state_of p)
    pub rising : Rising (numbers p.live)
    pub unended : (t : ℕ) → (nodes p.graph t ≡ true) ↔ ((t < length p.fates) × (fate_at p.fates t ≡ None))
    pub along : (t : ℕ) → nodes p.graph t ≡ true → IsAlong p.procedures (progress_at p.live t)
