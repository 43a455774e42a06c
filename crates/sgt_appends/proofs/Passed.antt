-- Reads at their positions, and the state of a scan of a read.
use Rattle.std.proofs.Common.{◌≡◌, ◌⊎◌, ◌<◌, ◌≤◌, ◌+◌, ◌==◌, ◌++◌, ℕ, zero, suc, Bool, true, false, cond, List, [], ◌∷◌, Option, Some, None, length, take, get_or, refl, sym, ap, ◌∙◌, subst, inl, inr, arith, append_assoc, append-nil}
use Rattle.std.specs.Prelude.{slice_get}
use Rattle.std.specs.Global.{Vec}
use Rattle.std.proofs.lemmas.Bool.{cases_eq, eqb-true}
use Rattle.std.proofs.lemmas.Grind.{common_steps}
use Rattle.sgt_appends.specs.declared.transaction.Operation.{Operation}
use Rattle.sgt_appends.specs.declared.transaction.Operation.TheVariants.{Append, Read}
use Rattle.sgt_appends.specs.declared.transaction.Status.{Status}
use Rattle.sgt_appends.specs.declared.transaction.Status.TheVariants.{Committed, Aborted, Unknown}
use Rattle.sgt_appends.specs.declared.transaction.Transaction.{Transaction}
use Rattle.sgt_appends.specs.declared.fault.Fault.{Fault}
use Rattle.sgt_appends.specs.declared.fault.Fault.TheVariants.{Unwritten, Aborted, Twice, Swapped, EndsOtherwise, Ahead, Incompatible}
use Rattle.sgt_appends.specs.Lists.{Has, IsOnce, StandsBefore}
use Rattle.sgt_appends.specs.Runs.{operations_of, Ended, MayRun, IsSerializable}
use Rattle.sgt_appends.specs.Precedences.{appended, Appends, Reads, HasReadAfter, HasSeen, AppendsOnce}
use Rattle.sgt_appends.specs.Faults.{IsFault}
use Rattle.sgt_appends.specs.Orders.{IsClean, AllClean}
use Rattle.sgt_appends.specs.Indexes.{Positions, IsIndex}
use Rattle.sgt_appends.specs.Reads.{IsReadAt, own_at, Faults, HasFault, IsCleanAt, AreCleanIn, Lasts, IsFaultAt, IsPassedOne, IsPassed}
use Rattle.sgt_appends.specs.Paths.{ReadAt}
use Rattle.sgt_appends.specs.Witnesses.{IsSeenAt}
use Rattle.sgt_appends.proofs.Words.{Has-append_left, Has-append_cases, StandsBefore-cons, StandsBefore-cases, StandsBefore-has}
use Rattle.sgt_appends.proofs.Spots.{read_place, at_append, has_at}
use Rattle.sgt_appends.proofs.ReadFaults.{at_both, not_yet}
use Rattle.sgt_appends.proofs.Filed.{append_at, at_appends, found_at, index_once}
use Rattle.sgt_appends.proofs.Faulty.{fault_enough}

-- a read at a position, by what was appended before it
pub reads_at : (h : List Transaction) (t p k : ℕ) (seen : List ℕ) → IsReadAt h t p k seen → Reads h t k (own_at h t p k) seen
reads_at h t p k seen it =
    subst (λ xs. HasReadAfter [] (operations_of h t) k (own_at h t p k) xs) it.2 (read_place (operations_of h t) p k it.0 [] it.1)

-- what a committed transaction saw at a position, by equal numbers
pub seen_here : (h : List Transaction) (t p k u q l : ℕ) (seen : List ℕ) → u ≡ t → q ≡ p → l ≡ k → Ended h u Committed
    → IsReadAt h u q l seen → IsSeenAt h t p k seen
seen_here h t p k u q l seen reader position key committed reads = (
  subst (λ w. Ended h w Committed) reader committed,
  subst (λ x. IsReadAt h t p x seen) key (subst (λ x. IsReadAt h t x l seen) position (subst (λ w. IsReadAt h w q l seen) reader reads)),
)

pub own_seen_at : (h : List Transaction) (t p k : ℕ) (seen : List ℕ) → IsSeenAt h t p k seen → ReadAt h t p k seen
own_seen_at h t p k seen it = (it.0, reads_at h t p k seen it.1)

pub has_seen_at : (h : List Transaction) (t p k : ℕ) (seen : List ℕ) → IsSeenAt h t p k seen → HasSeen h t k seen
has_seen_at h t p k seen it = (it.0, (own_at h t p k, reads_at h t p k seen it.1))

-- each read has a position
read_stands : (os : List Operation) (mine : List ℕ) (k : ℕ) (own seen : List ℕ) → HasReadAfter mine os k own seen
    → (p : ℕ) × (values : Vec ℕ) × (slice_get os p ≡ Some (Read k values)) × (values.items ≡ seen) × (own ≡ mine ++ appended k (take p os))
read_stands [] mine k own seen it = absurd it
read_stands (Append key value ∷ os) mine k own seen it =
    let is = go (k == key) (λ m. read_stands os m k own seen) it in (suc is.0, is.1, is.2, is.3, is.4)
  where
    go : (b : Bool) → ((m : List ℕ) → HasReadAfter m os k own seen
        → (p : ℕ) × (values : Vec ℕ) × (slice_get os p ≡ Some (Read k values)) × (values.items ≡ seen) × (own ≡ m ++ appended k (take p os)))
        → HasReadAfter (cond b (mine ++ value ∷ []) mine) os k own seen
        → (p : ℕ) × (values : Vec ℕ) × (slice_get os p ≡ Some (Read k values)) × (values.items ≡ seen)
        × (own ≡ mine ++ cond b (value ∷ appended k (take p os)) (appended k (take p os)))
    go true rest it =
        let is = rest (mine ++ value ∷ []) it in
        (is.0, is.1, is.2, is.3, is.4 ∙ append_assoc mine (value ∷ []) (appended k (take is.0 os)))
    go false rest it = rest mine it
read_stands (Read key values ∷ os) mine k own seen (inl it) =
    (0, values, ap (λ q. Some (Read q values)) it.0, it.2, sym it.1 ∙ sym (append-nil mine))
read_stands (Read key values ∷ os) mine k own seen (inr it) =
    let is = read_stands os mine k own seen it in (suc is.0, is.1, is.2, is.3, is.4)

pub at_reads : (h : List Transaction) (t k : ℕ) (own seen : List ℕ) → Reads h t k own seen
    → (p : ℕ) × IsReadAt h t p k seen × (own ≡ own_at h t p k)
at_reads h t k own seen it =
    let is = read_stands (operations_of h t) [] k own seen it in (is.0, (is.1, is.2, is.3), is.4)

-- if no read at any position has a fault, no read has one
pub all_clean : (h : List Transaction) → ((t : ℕ) → AreCleanIn h t) → AllClean h
all_clean h clean t k own seen committed reads =
    let it = at_reads h t k own seen reads in
    subst (λ xs. IsClean h t k xs seen) (sym it.2) (clean t it.0 k seen committed it.1)

-- two that are appended one after the other
pub both_at : (k : ℕ) (os : List Operation) (v w : ℕ) → StandsBefore (appended k os) v w
    → (p : ℕ) × (q : ℕ) × (p < q) × (slice_get os p ≡ Some (Append k v)) × (slice_get os q ≡ Some (Append k w))
both_at k [] v w it = absurd (StandsBefore-has [] v w it).0
both_at k (Append key value ∷ os) v w it =
    go (λ there. let is = both_at k os v w there in (suc is.0, suc is.1, omega (arith, is.2), is.3, is.4)) (k == key) refl it
  where
    go : (StandsBefore (appended k os) v w → (p : ℕ) × (q : ℕ) × (p < q) × (slice_get (Append key value ∷ os) p ≡ Some (Append k v))
        × (slice_get (Append key value ∷ os) q ≡ Some (Append k w)))
        → (b : Bool) → (k == key) ≡ b → StandsBefore (cond b (value ∷ appended k os) (appended k os)) v w
        → (p : ℕ) × (q : ℕ) × (p < q) × (slice_get (Append key value ∷ os) p ≡ Some (Append k v))
        × (slice_get (Append key value ∷ os) q ≡ Some (Append k w))
    go later true is there = elim (StandsBefore-cases value (appended k os) v w there) [
      | inl x ↦
          let at = found_at k os w x.1 in
          (0, suc at.0, omega arith, ap (λ l. Some (Append l value)) (sym (eqb-true k key is)) ∙ ap (λ l. Some (Append k l)) x.0, at.1)
      | inr x ↦ later x
    ]
    go later false is there = later there
both_at k (Read key values ∷ os) v w it = let is = both_at k os v w it in (suc is.0, suc is.1, omega (arith, is.2), is.3, is.4)

-- what is appended before a position
pub take_has : (os : List Operation) (p n k v : ℕ) → slice_get os p ≡ Some (Append k v) → p < n → Has (appended k (take n os)) v
take_has os p n k v at less = at_append (take n os) p k v (taken os p n (Append k v) at less)
  where
    taken : (os : List Operation) (p n : ℕ) (o : Operation) → slice_get os p ≡ Some o → p < n → slice_get (take n os) p ≡ Some o
    taken [] p n o at less = absurd (grind (arith, common_steps, at))
    taken (x ∷ os) p zero o at less = absurd (omega (arith, less))
    taken (x ∷ os) zero (suc n) o at less = at
    taken (x ∷ os) (suc p) (suc n) o at less = taken os p n o at (omega (arith, less))

once_by : (xs : List ℕ) → ((v : ℕ) → ¬ StandsBefore xs v v) → IsOnce xs
once_by [] never = tt
once_by (x ∷ xs) never = ((λ has. never x ([], xs, refl, has)), once_by xs (λ v it. never v (StandsBefore-cons x xs v v it)))

-- one more at the end comes after the others
stands_last : (xs : List ℕ) (x v w : ℕ) → StandsBefore (xs ++ x ∷ []) v w → StandsBefore xs v w ⊎ (Has xs v × (x ≡ w))
stands_last [] x v w it = elim (StandsBefore-cases x [] v w it) [
  | inl is ↦ absurd is.1
  | inr is ↦ absurd (StandsBefore-has [] v w is).0
]
stands_last (y ∷ xs) x v w it = elim (StandsBefore-cases y (xs ++ x ∷ []) v w it) [
  | inl is ↦ elim (Has-append_cases xs (x ∷ []) w is.1) [
    | inl there ↦ inl ([], xs, ap (λ l. l ∷ xs) is.0, there)
    | inr last ↦ inr (inl is.0, only last)
  ]
  | inr is ↦ elim (stands_last xs x v w is) [
    | inl there ↦ inl (StandsBefore-cons y xs v w there)
    | inr last ↦ inr (inr last.0, last.1)
  ]
]
  where
    only : {z : ℕ} → Has (x ∷ []) z → x ≡ z
    only (inl same) = same
    only (inr never) = absurd never

pub same_two : (x : Option (ℕ × ℕ)) (t p u q : ℕ) → x ≡ Some (t, p) → x ≡ Some (u, q) → (t ≡ u) × (p ≡ q)
same_two x t p u q one other =
    let e = pair (t, p) (u, q) (sym one ∙ other) in
    (ap (λ (r : ℕ × ℕ). r.0) e, ap (λ (r : ℕ × ℕ). r.1) e)
  where
    pair : (a b : ℕ × ℕ) → Some a ≡ Some b → a ≡ b
    pair a b e = cc

same_number : (x : Option ℕ) (p q : ℕ) → x ≡ Some p → x ≡ Some q → p ≡ q
same_number x p q one other = number (sym one ∙ other)
  where
    number : Some p ≡ Some q → p ≡ q
    number e = cc

-- one value more
pub passed_one : (h : List Transaction) (at : Positions) (t p k : ℕ) (vs : List ℕ) (old new : Lasts) (x : ℕ) → IsPassed h at t p k vs old
    → IsPassedOne h at t p k old new x → IsPassed h at t p k (vs ++ x ∷ []) new
passed_one h at t p k vs old new x passed one = record {
  written = λ v has. elim (Has-append_cases vs (x ∷ []) v has) [
    | inl there ↦ passed.written v there
    | inr last ↦ subst (λ w. (u : ℕ) × (q : ℕ) × (at k w ≡ Some (u, q)) × MayRun h u × (u ≡ t → q < p)) (only last)
        (one.0, one.1, one.2, one.3, one.4)
  ];
  last_are = λ u q is. elim (cases_eq u one.0) [
    | inl same ↦ (
      x,
      right,
      one.2 ∙ ap (λ w. Some (w, one.1)) (sym same) ∙ ap (λ r. Some (u, r))
          (same_number (new u) one.1 q (subst (λ w. new w ≡ Some one.1) (sym same) one.6) is),
    )
    | inr differ ↦
        let it = passed.last_are u q (sym (one.7 u differ) ∙ is) in
        (it.0, Has-append_left vs (x ∷ []) it.0 it.1, it.2)
  ];
  none_later = λ v u q has is. elim (Has-append_cases vs (x ∷ []) v has) [
    | inl there ↦
        let it = passed.none_later v u q there is in
        elim (cases_eq u one.0) [
          | inl same ↦ (
            one.1,
            subst (λ w. new w ≡ Some one.1) (sym same) one.6,
            less q it.0 one.1 it.2 (one.5 it.0 (subst (λ w. old w ≡ Some it.0) same it.1)),
          )
          | inr differ ↦ (it.0, one.7 u differ ∙ it.1, it.2)
        ]
    | inr last ↦
        let both = same_two (at k v) u q one.0 one.1 is (subst (λ w. at k w ≡ Some (one.0, one.1)) (only last) one.2) in
        (one.1, subst (λ w. new w ≡ Some one.1) (sym both.0) one.6, omega (arith, both.1))
  ];
  in_order = λ v w u q r before first second. elim (stands_last vs x v w before) [
    | inl there ↦ passed.in_order v w u q r there first second
    | inr last ↦
        let both = same_two (at k w) u r one.0 one.1 second (subst (λ z. at k z ≡ Some (one.0, one.1)) last.1 one.2) in
        let it = passed.none_later v u q last.0 first in
        over q it.0 one.1 r it.2 (one.5 it.0 (subst (λ z. old z ≡ Some it.0) both.0 it.1)) both.1
  ];
}
  where
    only : {z : ℕ} → Has (x ∷ []) z → x ≡ z
    only (inl same) = same
    only (inr never) = absurd never

    right : Has (vs ++ x ∷ []) x
    right = go vs
      where
        go : (ys : List ℕ) → Has (ys ++ x ∷ []) x
        go [] = inl refl
        go (y ∷ ys) = inr (go ys)

    less : (a b c : ℕ) → a ≤ b → b < c → a ≤ c
    less a b c one two = omega (arith, one, two)

    over : (a b c d : ℕ) → a ≤ b → b < c → d ≡ c → a < d
    over a b c d one two three = omega (arith, one, two, three)

-- the scanned values have no fault
pub passed_clean : (h : List Transaction) (at : Positions) (t p k : ℕ) (seen : List ℕ) (last : Lasts) → IsIndex h at
    → IsPassed h at t p k seen last → ((base : List ℕ) × (seen ≡ base ++ own_at h t p k)) → IsClean h t k (own_at h t p k) seen
passed_clean h at t p k seen last index passed ends = record {
  written = λ v has.
      let it = passed.written v has in
      (it.0, at_appends h it.0 it.1 k v (index.found k v it.0 it.1 it.2), it.3);
  once = once_by seen (λ v before.
      let it = passed.written v (StandsBefore-has seen v v before).0 in
      never it.1 (passed.in_order v v it.0 it.1 it.1 before it.2 it.2));
  in_order = λ u first second mine other.
      let it = both_at k (operations_of h u) first second mine in
      turned it.0 it.1 it.2 (passed.in_order second first u it.1 it.0 other
      (index.all k second u it.1 it.4) (index.all k first u it.0 it.3));
  base = ends.0;
  ends = ends.1;
  not_ahead = λ v has appends.
      let q = append_at h t k v appends in
      let it = passed.written v has in
      let same = same_two (at k v) t q.0 it.0 it.1 (index.all k v t q.0 q.1) it.2 in
      take_has (operations_of h t) q.0 p k v q.1 (subst (λ r. r < p) (sym same.1) (it.4 (sym same.0)));
}
  where
    never : (n : ℕ) → ¬ (n < n)
    never n less = omega (arith, less)

    turned : (a b : ℕ) → a < b → ¬ (b < a)
    turned a b one two = omega (arith, one, two)

pub stands_at : (xs : List ℕ) (i v w : ℕ) → Has (take i xs) v → i < length xs → get_or xs i 0 ≡ w → StandsBefore xs v w
stands_at [] i v w has within is = absurd (omega (arith, within))
stands_at (x ∷ xs) zero v w has within is = absurd has
stands_at (x ∷ xs) (suc i) v w (inl same) within is = ([], xs, ap (λ l. l ∷ xs) same, has_at xs i w (omega (arith, within)) is)
stands_at (x ∷ xs) (suc i) v w (inr has) within is =
    StandsBefore-cons x xs v w (stands_at xs i v w has (omega (arith, within)) is)

-- a fault at one value is a fault of the read
pub fault_one : (h : List Transaction) (at : Positions) (t p k : ℕ) (seen : List ℕ) (i : ℕ) (last : Lasts) (x : ℕ) (fault : Fault)
    → IsIndex h at → IsPassed h at t p k (take i seen) last → i < length seen → get_or seen i 0 ≡ x
    → IsFaultAt h at t p k last x fault → Faults h t k (own_at h t p k) seen fault
fault_one h at t p k seen i last x (Unwritten v) index passed within is it =
    (subst (λ w. Has seen w) (sym it.0) (has_at seen i x within is), subst (λ w. (u : ℕ) → Appends h u k w → ¬ MayRun h u) (sym it.0) it.1)
fault_one h at t p k seen i last x (Aborted by append) index passed within is it =
    (x, index.found k x by append it.0, has_at seen i x within is, it.1)
fault_one h at t p k seen i last x (Twice v) index passed within is it =
    let before = passed.last_are it.1 it.2 it.4 in
    let same : before.0 ≡ x = same_value (operations_of h it.1) it.2 k before.0 x
    (index.found k before.0 it.1 it.2 before.2) (index.found k x it.1 it.2 it.3) in
    subst (λ w. StandsBefore seen w w) (sym it.0) (stands_at seen i x x (subst (λ w. Has (take i seen) w) same before.1) within is)
  where
    same_value : (os : List Operation) (q l v w : ℕ) → slice_get os q ≡ Some (Append l v) → slice_get os q ≡ Some (Append l w) → v ≡ w
    same_value os q l v w one other = by (sym one ∙ other)
      where
        by : Some (Append l v) ≡ Some (Append l w) → v ≡ w
        by e = cc
fault_one h at t p k seen i last x (Swapped by first second) index passed within is it =
    let before = passed.last_are by second it.1 in (
      x,
      before.0,
      it.2,
      index.found k x by first it.0,
      index.found k before.0 by second before.2,
      stands_at seen i before.0 x before.1 within is,
    )
fault_one h at t p k seen i last x EndsOtherwise index passed within is it = absurd it
fault_one h at t p k seen i last x (Incompatible other read) index passed within is it = absurd it
fault_one h at t p k seen i last x (Ahead append) index passed within is it =
    let here = index.found k x t append it.0 in
    (x, here, not_yet (operations_of h t) p append k x ((index_once h at index).once t k) here it.1, has_at seen i x within is)

-- the fault, or a value that stands there twice
pub twice_reported : (h : List Transaction) (t k : ℕ) (own seen : List ℕ) (fault reported : Fault)
    → (reported ≡ fault) ⊎ ((v : ℕ) × (reported ≡ Twice v) × StandsBefore seen v v) → Faults h t k own seen fault → Faults h t k own seen reported
twice_reported h t k own seen fault reported is it = elim is [
  | inl same ↦ subst (λ f. Faults h t k own seen f) (sym same) it
  | inr w ↦ subst (λ f. Faults h t k own seen f) (sym w.1) w.2
]

-- the fault of a read at a position is one of the read
pub as_fault : (h : List Transaction) (t p k : ℕ) (seen : List ℕ) (f : Fault) → Faults h t k (own_at h t p k) seen f
    → IsFault h t k (own_at h t p k) seen
as_fault h t p k seen (Unwritten v) is = inl (v, is.0, is.1)
as_fault h t p k seen (Aborted by append) is = inl (is.0, is.2, is.3)
as_fault h t p k seen (Twice v) is = inr (inl (v, is))
as_fault h t p k seen (Swapped by first second) is =
    inr (inr (inl (by, is.0, is.1, at_both (operations_of h by) first second k is.0 is.1 is.2 is.3 is.4, is.5)))
as_fault h t p k seen EndsOtherwise is = inr (inr (inr (inl is)))
as_fault h t p k seen (Ahead append) is = inr (inr (inr (inr (inl (is.0, is.3, at_appends h t append k is.0 is.1, is.2)))))
as_fault h t p k seen (Incompatible other read) is = inr (inr (inr (inr (inr (
  other,
  is.0,
  (is.1, (own_at h other read k, reads_at h other read k is.0 is.2)),
  is.3,
  is.4,
)))))

-- if a read has a fault there is no serial run
pub fault_shown : (h : List Transaction) (t p : ℕ) (fault : Fault) → AppendsOnce h → HasFault h t p fault → ¬ IsSerializable h
fault_shown h t p fault once it =
    fault_enough h t it.0 (own_at h t p it.0) it.1 once it.2 (reads_at h t p it.0 it.1 it.3) (as_fault h t p it.0 it.1 fault it.4)

pub not_read : (os : List Operation) (p l v k : ℕ) (values : Vec ℕ) → slice_get os p ≡ Some (Append l v)
    → ¬ (slice_get os p ≡ Some (Read k values))
not_read os p l v k values one other = by (sym one ∙ other)
  where
    by : ¬ (Some (Append l v) ≡ Some (Read k values))
    by e = cc

-- one transaction more
pub clean_one : (h : List Transaction) (i : ℕ) → ((t : ℕ) → t < i → AreCleanIn h t) → AreCleanIn h i → (t : ℕ) → t < i + 1 → AreCleanIn h t
clean_one h i before here t less = elim (cases_eq t i) [
  | inl same ↦ subst (λ u. AreCleanIn h u) (sym same) here
  | inr differ ↦ before t (omega (arith, less, differ))
]

pub stands_within : (os : List Operation) (p : ℕ) (o : Operation) → slice_get os p ≡ Some o → p < length os
stands_within [] p o is = absurd (grind (arith, common_steps, is))
stands_within (x ∷ os) zero o is = omega arith
stands_within (x ∷ os) (suc p) o is = omega (arith, stands_within os p o is)

pub ended_within : (ts : List Transaction) (t : ℕ) (x : Transaction) → slice_get ts t ≡ Some x → t < length ts
ended_within [] t x is = absurd (grind (arith, common_steps, is))
ended_within (y ∷ ts) zero x is = omega arith
ended_within (y ∷ ts) (suc t) x is = omega (arith, ended_within ts t x is)

-- all transactions
pub clean_after : (h : List Transaction) (i : ℕ) → ((t : ℕ) → t < i → AreCleanIn h t) → length h ≤ i → (t : ℕ) → AreCleanIn h t
clean_after h i before whole t p k seen committed is =
    before t (omega (arith, whole, ended_within h t committed.0 committed.1)) p k seen committed is

same_read : (os : List Operation) (p k l : ℕ) (values others : Vec ℕ) → slice_get os p ≡ Some (Read k values)
    → slice_get os p ≡ Some (Read l others) → (k ≡ l) × (values ≡ others)
same_read os p k l values others one other = (key (sym one ∙ other), list (sym one ∙ other))
  where
    key : Some (Read k values) ≡ Some (Read l others) → k ≡ l
    key e = cc

    list : Some (Read k values) ≡ Some (Read l others) → values ≡ others
    list e = cc

-- one position more
pub clean_more : (h : List Transaction) (t i : ℕ) → ((p : ℕ) → p < i → IsCleanAt h t p) → IsCleanAt h t i → (p : ℕ) → p < i + 1 → IsCleanAt h t p
clean_more h t i before here p less = elim (cases_eq p i) [
  | inl same ↦ subst (λ q. IsCleanAt h t q) (sym same) here
  | inr differ ↦ before p (omega (arith, less, differ))
]

-- all positions
pub clean_all : (h : List Transaction) (t i : ℕ) → ((p : ℕ) → p < i → IsCleanAt h t p) → length (operations_of h t) ≤ i → AreCleanIn h t
clean_all h t i before whole p k seen committed it =
    before p (omega (arith, whole, stands_within (operations_of h t) p (Read k it.0) it.1)) k seen committed it

may_by : (h : List Transaction) (t : ℕ) (x : Transaction) (status : Status) → slice_get h t ≡ Some x → x.status ≡ status
    → ¬ (x.status ≡ Aborted) → MayRun h t
may_by h t x Committed there is not = inl (x, there, is)
may_by h t x Aborted there is not = absurd (not is)
may_by h t x Unknown there is not = inr (x, there, is)

-- a transaction that is not aborted may run
pub may_run : (h : List Transaction) (t : ℕ) (x : Transaction) → slice_get h t ≡ Some x → ¬ (x.status ≡ Aborted) → MayRun h t
may_run h t x there not = may_by h t x x.status there refl not

ended_one : (h : List Transaction) (t : ℕ) (x : Transaction) (status : Status) → slice_get h t ≡ Some x → Ended h t status → x.status ≡ status
ended_one h t x status there it = ap (λ (y : Transaction). y.status) (by (sym there ∙ it.1)) ∙ it.2
  where
    by : Some x ≡ Some it.0 → x ≡ it.0
    by e = cc

pub not_aborted : (h : List Transaction) (t : ℕ) (x : Transaction) → slice_get h t ≡ Some x → x.status ≡ Aborted → ¬ MayRun h t
not_aborted h t x there is (inl it) = by (sym is ∙ ended_one h t x Committed there it)
  where
    by : ¬ (Aborted ≡ Committed)
    by e = cc
not_aborted h t x there is (inr it) = by (sym is ∙ ended_one h t x Unknown there it)
  where
    by : ¬ (Aborted ≡ Unknown)
    by e = cc

-- the index names each appender
pub appender_is : (h : List Transaction) (at : Positions) (k v u : ℕ) (y : ℕ × ℕ) → IsIndex h at → at k v ≡ Some y → Appends h u k v → u ≡ y.0
appender_is h at k v u y index is appends =
    let p = append_at h u k v appends in
    (same_two (at k v) u p.0 y.0 y.1 (index.all k v u p.0 p.1) is).0

pub appender_none : (h : List Transaction) (at : Positions) (k v u : ℕ) → IsIndex h at → at k v ≡ None → ¬ Appends h u k v
appender_none h at k v u index none appends =
    let p = append_at h u k v appends in
    by (sym none ∙ index.all k v u p.0 p.1)
  where
    by : {y : ℕ × ℕ} → ¬ (None ≡ Some y)
    by e = cc

pub never_there : (h : List Transaction) (t : ℕ) → slice_get h t ≡ None → ¬ MayRun h t
never_there h t none (inl it) = by (sym none ∙ it.1)
  where
    by : {x : Transaction} → ¬ (None ≡ Some x)
    by e = cc
never_there h t none (inr it) = by (sym none ∙ it.1)
  where
    by : {x : Transaction} → ¬ (None ≡ Some x)
    by e = cc

-- a position has one read, of one key
pub same_read_at : (h : List Transaction) (t p k l : ℕ) (seen others : List ℕ) → IsReadAt h t p k seen → IsReadAt h t p l others
    → (k ≡ l) × (seen ≡ others)
same_read_at h t p k l seen others it other =
    let same = same_read (operations_of h t) p k l it.0 other.0 it.1 other.1 in
    (same.0, sym it.2 ∙ ap (λ (v : Vec ℕ). v.items) same.1 ∙ other.2)
