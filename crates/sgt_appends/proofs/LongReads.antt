-- The links of the longest reads hold those of the shorter ones.
use Rattle.std.proofs.Common.{◌≡◌, ◌<◌, ◌≤◌, ℕ, suc, List, Some, length, take, get_or, sym, ap, ◌∙◌, subst, inl, inr, arith}
use Rattle.std.proofs.lemmas.Bool.{cases_eq}
use Rattle.std.proofs.lemmas.List.{get_or-take}
use Rattle.sgt_appends.specs.declared.sorting.Link.{Link}
use Rattle.sgt_appends.specs.declared.transaction.Transaction.{Transaction}
use Rattle.sgt_appends.specs.Graphs.{AreAmong}
use Rattle.sgt_appends.specs.Indexes.{Positions}
use Rattle.sgt_appends.specs.Reads.{IsReadAt}
use Rattle.sgt_appends.specs.Required.{AreNextLinked, KeyReads, AreLongLinked}
use Rattle.sgt_appends.proofs.More.{linked_still}
use Rattle.sgt_appends.proofs.Passed.{same_two, same_read_at}

-- the first values that are those of a linked list
pub front_linked : (at : Positions) (links : List Link) (k n : ℕ) (before seen : List ℕ) → n ≤ length before → n ≤ length seen
    → take n seen ≡ take n before → AreNextLinked at links k before (length before) → AreNextLinked at links k seen n
front_linked at links k n before seen of_before of_seen same linked i x y less one other =
    linked i x y (omega (arith, less, of_before)) (sym (ap (at k) (same_at i (omega (arith, less)))) ∙ one)
    (sym (ap (at k) (same_at (suc i) less)) ∙ other)
  where
    same_at : (j : ℕ) → j < n → get_or seen j 0 ≡ get_or before j 0
    same_at j within = sym (get_or-take n seen j 0 within) ∙ ap (λ xs. get_or xs j 0) same ∙ get_or-take n before j 0 within

-- more links
pub long_still : (h : List Transaction) (at : Positions) (old new : List Link) (reads : KeyReads) → AreAmong old new
    → AreLongLinked h at old reads → AreLongLinked h at new reads
long_still h at old new reads stay long k r p seen is read i x y less one other =
    linked_still old new x.0 y.0 stay (long k r p seen is read i x y less one other)

-- one read in place of another of its key
pub long_one : (h : List Transaction) (at : Positions) (old new : List Link) (before after : KeyReads) (k r p : ℕ) (seen : List ℕ)
    → AreAmong old new → AreLongLinked h at old before → IsReadAt h r p k seen → AreNextLinked at new k seen (length seen)
    → after k ≡ Some (r, p) → ((l : ℕ) → ¬ (l ≡ k) → after l ≡ before l) → AreLongLinked h at new after
long_one h at old new before after k r p seen stay long read linked here others l t q values is reads = elim (cases_eq l k) [
  | inl same ↦
      let both = same_two (after k) t q r p (subst (λ m. after m ≡ Some (t, q)) same is) here in
      let it = same_read_at h r p k l seen values read
      (subst (λ u. IsReadAt h u p l values) both.0 (subst (λ m. IsReadAt h t m l values) both.1 reads)) in
      subst (λ m. AreNextLinked at new m values (length values)) it.0
      (subst (λ xs. AreNextLinked at new k xs (length xs)) it.1 linked)
  | inr differ ↦ (λ i x y less one other.
      linked_still old new x.0 y.0 stay (long l t q values (sym (others l differ) ∙ is) reads i x y less one other))
]
