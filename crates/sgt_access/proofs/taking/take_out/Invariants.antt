use Rattle.std.proofs.Common.{◌≡◌, ◌≤◌, ◌&&◌, not, nat_eq, false, Bool, count_by, List, ◌++◌, length}
use Rattle.std.specs.List.{AllWithin}
use Rattle.sgt_model.specs.AccessList.{ListedAccess}
use Rattle.sgt_access.specs.Masks.{IsLeaving}
use Rattle.sgt_access.proofs.taking.take_out.Given as goal

-- from the index on, none is of t; and the others are all there
abbrev pub invariant-loop-index : goal.invariant-loop-index
invariant-loop-index l = record {
  within : l.index ≤ length l.accesses.items;
  none : AllWithin (λ (a : ListedAccess). nat_eq a.by l.t ≡ false) l.accesses.items l.index (length l.accesses.items);
  others : (p : ListedAccess → Bool) → count_by (λ a. p a && not (nat_eq a.by l.t)) l.accesses.items
      ≡ count_by (λ a. p a && not (nat_eq a.by l.t)) l.fn.accesses.items;
  leaving : (rest : List ListedAccess) → IsLeaving l.fn.masks l.t l.places (l.fn.accesses.items ++ rest)
      → IsLeaving l.masks l.t l.places (l.accesses.items ++ rest);
}

abbrev pub decreases-loop-index : goal.decreases-loop-index
decreases-loop-index l = l.index
