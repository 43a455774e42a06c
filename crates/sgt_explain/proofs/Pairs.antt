-- The search for an access by which one transaction comes before another, from the newest position to the oldest.
use Rattle.std.proofs.Common.{ℕ, ◌-◌, ◌<◌, ◌≤◌, List, Option, Some, None, IsSome, IfSome, length, refl, arith}
use Rattle.sgt_model.specs.declared.entry.Entry.{Entry}
use Rattle.sgt_model.specs.declared.kind.Kind.{Kind}
use Rattle.sgt_model.specs.Contents.{Key}
use Rattle.sgt_model.specs.Accesses.{Access}
use Rattle.sgt_model.specs.Pairs.{FollowsIn, Precedes}
use Rattle.sgt_model.specs.Aborts.{IsAccessBy}
use Rattle.sgt_model.specs.ReadFrom.{IsBy}
use Rattle.sgt_explain.specs.declared.edge.CycleEdge.{CycleEdge}
use Rattle.sgt_explain.specs.Places.{entries_before, placed_access}
use Rattle.sgt_explain.specs.Edges.{ConflictsAt, FollowsAt, ReportsAccess, ReportsPair}
use Rattle.sgt_explain.proofs.Backward.{NoneFrom, IsFirstFrom, none_back}
use Rattle.sgt_explain.proofs.Conflicts.{none_follows, follows_precede}

access_by : (o : Option Access) (t : ℕ) (k : Key) (kind : Kind) → IsAccessBy o t k kind → IsBy o t
access_by None t k kind h = h
access_by (Some a) t k kind h = h.0

-- where the transaction has no access, it has none that conflicts
pub no_conflict_from : (entries : List Entry) (t : ℕ) (k : Key) (earlier later : Kind) (low end : ℕ)
    → NoneFrom (λ n. IsBy (placed_access entries n) t) low end → NoneFrom (ConflictsAt entries t k earlier later) low end
no_conflict_from entries t k earlier later low end none m from below h =
    none m from below (access_by (placed_access entries m) t k earlier h.0)

follow_by : (past : List Entry) (o : Option Access) (t u : ℕ) → FollowsIn past o t u → IsBy o u
follow_by past None t u h = h
follow_by past (Some a) t u h = h.0

pub no_follow_from : (entries : List Entry) (t u low end : ℕ)
    → NoneFrom (λ n. IsBy (placed_access entries n) u) low end → NoneFrom (FollowsAt entries t u) low end
no_follow_from entries t u low end none m from below h = none m from below (follow_by (entries_before entries m) (placed_access entries m) t u h)

-- the first access from there on, with its edge
pub record PairFirst (entries : List Entry) (end t u low : ℕ) (edge : CycleEdge) : Type 0 where
  pub at : ℕ
  pub first : IsFirstFrom (FollowsAt entries t u) low end at
  pub access : ReportsAccess entries t u at edge

abbrev pub PairFrom : List Entry → (end t u low : ℕ) → Option CycleEdge → Type 0
PairFrom entries end t u low None = NoneFrom (FollowsAt entries t u) low end
PairFrom entries end t u low (Some edge) = PairFirst entries end t u low edge

-- one position back
pub pair_back : (entries : List Entry) (end t u low rest : ℕ) (o : Option CycleEdge) → 0 < low → PairFrom entries end t u low o
    → (low - 1 < end → FollowsAt entries t u (low - 1) → ⊥) → NoneFrom (λ n. IsBy (placed_access entries n) u) rest (low - 1)
    → PairFrom entries end t u rest o
pair_back entries end t u low rest None some later here before =
    none_back (FollowsAt entries t u) low rest end some later here (no_follow_from entries t u rest (low - 1) before)
pair_back entries end t u low rest (Some edge) some later here before = let first = later.first in record {
  at = later.at;
  first = record {
    below = first.below;
    holds = first.holds;
    first = none_back (FollowsAt entries t u) low rest later.at some first.first
        (λ under. here (let below = first.below in omega (arith, under, below))) (no_follow_from entries t u rest (low - 1) before);
  };
  access = later.access;
}

pub pair_here : (entries : List Entry) (end t u low rest : ℕ) (edge : CycleEdge) → low - 1 < end → FollowsAt entries t u (low - 1)
    → ReportsAccess entries t u (low - 1) edge → NoneFrom (λ n. IsBy (placed_access entries n) u) rest (low - 1)
    → PairFrom entries end t u rest (Some edge)
pair_here entries end t u low rest edge below holds access before = record {
  at = low - 1;
  first = record { below = below; holds = holds; first = no_follow_from entries t u rest (low - 1) before };
  access = access;
}

-- the whole search
pub pair_reported : (entries : List Entry) (end t u low : ℕ) (o : Option CycleEdge) → low ≤ 0 → PairFrom entries end t u low o
    → IfSome o (ReportsPair entries end t u)
pair_reported entries end t u low None zero found = tt
pair_reported entries end t u low (Some edge) zero found = let first = found.first in record {
  at = found.at;
  first = record {
    below = first.below;
    holds = first.holds;
    first = λ m below h. first.first m (omega (arith, zero)) below h;
  };
  access = found.access;
}

pub pair_some : (entries : List Entry) (end t u low : ℕ) (o : Option CycleEdge) → end ≤ length entries → low ≤ 0
    → PairFrom entries end t u low o → (IsSome o → Precedes (entries_before entries end) t u) × (Precedes (entries_before entries end) t u → IsSome o)
pair_some entries end t u low None within zero found = (
  λ some. absurd (cc),
  λ h. absurd (none_follows entries end t u within (λ m below holds. found m (omega (arith, zero)) below holds) h),
)
pair_some entries end t u low (Some edge) within zero found = let first = found.first in (
  λ some. follows_precede entries end t u found.at within first.below first.holds,
  λ h. refl,
)
