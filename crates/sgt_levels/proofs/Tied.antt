-- Paths of ties: one tie more, and cycles.
use Rattle.std.proofs.Common.{◌≡◌, ◌<◌, ◌+◌, ℕ, Bool, true, false, List, [], ◌∷◌, ◌++◌, sym, subst, inl, inr, arith}
use Rattle.sgt_appends.specs.declared.transaction.Transaction.{Transaction}
use Rattle.sgt_appends.specs.Precedences.{AppendsOnce}
use Rattle.sgt_levels.specs.Levels.{Depends, Misses, Leads, IsSnapshotPath}
use Rattle.sgt_levels.specs.Snapshots.{IsSnapshotIsolated}
use Rattle.sgt_levels.specs.Ties.{SnapshotReaches, IsPending}
use Rattle.sgt_levels.proofs.Steps.{path_on}
use Rattle.sgt_levels.proofs.Split.{snapshot_cycle}

leads_on : (h : List Transaction) (t m v : ℕ) → SnapshotReaches h t m → Leads h m v → (others : List ℕ) × IsSnapshotPath h t others v
leads_on h t m v (inl same) step = ([], subst (λ x. Leads h x v) (sym same) step)
leads_on h t m v (inr it) step = (it.0 ++ m ∷ [], path_on (Leads h) t it.0 m v it.1 step)

pub pending_depends : (h : List Transaction) (i t u v : ℕ) (waits : Bool) → IsPending h i t u waits → Depends h u v → IsPending h (i + 1) t v true
pending_depends h i t u v false (inl none) step = (omega arith, (u, inl none.1, step))
pending_depends h i t u v false (inr some) step = (omega arith, (u, inr some.1, step))
pending_depends h i t u v true (some, (m, reach, last)) step = (omega arith, (u, inr (leads_on h t m u reach (inl last)), step))

pub pending_misses : (h : List Transaction) (i t u v : ℕ) → IsPending h i t u true → Misses h u v → IsPending h (i + 1) t v false
pending_misses h i t u v (some, (m, reach, last)) step = inr (omega arith, leads_on h t m v reach (inr (u, last, step)))

pub snapshot_closed : (h : List Transaction) (i t u : ℕ) (waits : Bool) → AppendsOnce h → 0 < i → IsPending h i t u waits → u ≡ t
    → ¬ IsSnapshotIsolated h
snapshot_closed h i t u false once some (inl none) same = absurd (omega (arith, some, none.0))
snapshot_closed h i t u false once some (inr it) same =
    snapshot_cycle h t it.1.0 once (subst (λ x. IsSnapshotPath h t it.1.0 x) same it.1.1)
snapshot_closed h i t u true once some (more, (m, reach, last)) same =
    let it = leads_on h t m u reach (inl last) in
    snapshot_cycle h t it.0 once (subst (λ x. IsSnapshotPath h t it.0 x) same it.1)
