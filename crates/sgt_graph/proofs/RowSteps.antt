-- Rows of indices, one after another.
use Rattle.std.specs.Prelude.{◌≡◌, ℕ, ◌+◌, ◌^◌, ◌≢◌, ◌<◌, ◌≤◌, ◌⊎◌, ◌↔◌, Bool, true, false, not, ◌&&◌, ◌||◌, nat_eq, List, [], ◌∷◌, length, slice_index, slice_set}
use Rattle.std.proofs.Common.{zero, suc, refl, sym, ◌∙◌, ap, subst, inl, inr, arith}
use Rattle.std.proofs.lemmas.Nat.Bits.{bit_at_above, bit_at-zero}
use Rattle.std.proofs.lemmas.List.{get_or-set_same, get_or-set_other}
use Rattle.std.proofs.Math.ListN.{length-set}
use Rattle.std.proofs.lemmas.Bool.{eqb-true, eq-eqb, and_parts, or_cases, or_left, or_right, both_ways, cases_lt, false_from_ne_true, cases_eq}
use Rattle.sgt_model.specs.Paths.{Reaches}
use Rattle.sgt_model.proofs.Paths.{reaches_self, reaches_step, reaches_trans}
use Rattle.sgt_cycle.specs.Indices.{is_set, is_bit}
use Rattle.sgt_cycle.specs.Path.{Holds}
use Rattle.sgt_graph.specs.Closures.{Leads, IsClosure}
use Rattle.sgt_graph.specs.Relations.{IsRelation}

-- no index from 32 on is in a set
pub none_above : (a i : ℕ) → a < 2 ^ 32 → 32 ≤ i → is_set a i ≡ false
unfolding is_set
none_above a i fits high = ap (λ x. nat_eq x 1) (bit_at_above a 32 i fits high)

pub low_index : (a i : ℕ) → a < 2 ^ 32 → is_set a i ≡ true → i < 32
low_index a i fits set = elim (cases_lt i 32) [ inl low ↦ low | inr high ↦ absurd (both_ways _ (none_above a i fits high) set) ]

pub none_in : (i : ℕ) → is_set 0 i ≡ false
unfolding is_set
none_in i = ap (λ x. nat_eq x 1) (bit_at-zero i)

-- rows of nothing
abbrev pub zeros : ℕ → List ℕ
zeros zero = []
zeros (suc n) = 0 ∷ zeros n

pub zero_rows : (n i j : ℕ) → is_bit (zeros n) i j ≡ false
zero_rows n i j = ap (λ x. is_set x j) (at_zero n i) ∙ none_in j
  where
    at_zero : (n i : ℕ) → slice_index (zeros n) i ≡ 0
    at_zero zero i = refl
    at_zero (suc n) zero = refl
    at_zero (suc n) (suc i) = at_zero n i

-- there is no row after the last
pub no_row : (rows : List ℕ) (i j : ℕ) → length rows ≤ i → is_bit rows i j ≡ false
no_row rows i j high = ap (λ x. is_set x j) (beyond rows i high) ∙ none_in j
  where
    beyond : (xs : List ℕ) (i : ℕ) → length xs ≤ i → slice_index xs i ≡ 0
    beyond [] i h = refl
    beyond (x ∷ xs) zero h = absurd (omega arith)
    beyond (x ∷ xs) (suc i) h = beyond xs i (omega arith)

pub row_low : (rows : List ℕ) (i j : ℕ) → length rows ≡ 32 → is_bit rows i j ≡ true → i < 32
row_low rows i j size h = elim (cases_lt i 32) [ inl low ↦ low | inr high ↦ absurd (both_ways _ (no_row rows i j (omega arith)) h) ]

and_all : (b : Bool) → (b && true) ≡ b
and_all true = refl
and_all false = refl

and_none : (b : Bool) → (b && false) ≡ false
and_none true = refl
and_none false = refl

-- a row is emptied, after its index was taken out of all rows
pub emptied : (old rows : List ℕ) (p : ℕ) → p < length rows → ((i j : ℕ) → is_bit rows i j ≡ (is_bit old i j && not (nat_eq j p)))
    → (i j : ℕ) → is_bit (slice_set rows p 0) i j ≡ (is_bit old i j && (not (nat_eq i p) && not (nat_eq j p)))
emptied old rows p low out i j = elim (cases_eq i p) [
  | inl e ↦
      subst (λ k. is_bit (slice_set rows p 0) k j ≡ (is_bit old k j && (not (nat_eq k p) && not (nat_eq j p)))) (sym e)
      (ap (λ x. is_set x j) (get_or-set_same rows p 0 0 low) ∙ none_in j
      ∙ sym (ap (λ x. is_bit old p j && (not x && not (nat_eq j p))) (eq-eqb p p refl) ∙ and_none (is_bit old p j)))
  | inr other ↦ ap (λ x. is_set x j) (get_or-set_other rows p i 0 0 other) ∙ out i j
      ∙ ap (λ x. is_bit old i j && (not x && not (nat_eq j p))) (sym (false_from_ne_true (nat_eq i p) (λ t. other (eqb-true i p t))))
]

-- an index of those that are left is passed: it is no longer left, and the others are as before
module _ (left left' k : ℕ) (less : (i : ℕ) → is_set left' i ≡ (is_set left i && not (nat_eq i k))) where
  pub is_passed : is_set left' k ≡ false
  is_passed = less k ∙ ap (λ x. is_set left k && not x) (eq-eqb k k refl) ∙ and_none (is_set left k)

  pub is_left : (i : ℕ) → i ≢ k → is_set left' i ≡ is_set left i
  is_left i other = less i ∙ ap (λ x. is_set left i && not x) (false_from_ne_true (nat_eq i k) (λ t. other (eqb-true i k t)))
      ∙ and_all (is_set left i)

  pub was_left : (i : ℕ) → is_set left' i ≡ true → is_set left i ≡ true
  was_left i h = (and_parts (is_set left i) _ (sym (less i) ∙ h)).0

-- the rows of the indices of a set have more indices, but for those that are left
pub record Spread (to more : ℕ) (old : List ℕ) (left : ℕ) (rows : List ℕ) : Type 0 where
  pub size : length rows ≡ 32
  pub within : (i : ℕ) → is_set left i ≡ true → is_set to i ≡ true
  pub bits : (i j : ℕ) → is_bit rows i j ≡ (is_bit old i j || ((is_set to i && not (is_set left i)) && is_set more j))

module _ (to more : ℕ) (old : List ℕ) where
  pub spread_none : length old ≡ 32 → Spread to more old to old
  spread_none size = record
      { size = size; within = λ i h. h; bits = λ i j. none (is_bit old i j) (is_set to i) (is_set more j) }
    where
      none : (a b c : Bool) → a ≡ (a || ((b && not b) && c))
      none true b c = refl
      none false true c = refl
      none false false c = refl

  pub spread_next : (left left' k : ℕ) (rows : List ℕ) (row : ℕ) → Spread to more old left rows → k < 32 → is_set left k ≡ true
      → ((i : ℕ) → is_set left' i ≡ (is_set left i && not (nat_eq i k)))
      → ((j : ℕ) → is_set row j ≡ (is_bit rows k j || is_set more j))
      → Spread to more old left' (slice_set rows k row)
  spread_next left left' k rows row s low here less row_is = record {
    size = length-set rows k row ∙ s.size;
    within = λ i h. s.within i (was_left left left' k less i h);
    bits = λ i j. elim (cases_eq i k) [
      | inl e ↦
          subst (λ x. is_bit (slice_set rows k row) x
          j ≡ (is_bit old x j || ((is_set to x && not (is_set left' x)) && is_set more j))) (sym e)
          (ap (λ x. is_set x j) (get_or-set_same rows k row 0 (omega (arith, s.size))) ∙ row_is j
          ∙ ap (λ x. x || is_set more j) (s.bits k j)
          ∙ now (is_bit old k j) (is_set to k) (is_set left k) (is_set left' k) (is_set more j) (s.within k here) here
          (is_passed left left' k less))
      | inr other ↦ ap (λ x. is_set x j) (get_or-set_other rows k i row 0 other) ∙ s.bits i j
          ∙ ap (λ x. is_bit old i j || ((is_set to i && not x) && is_set more j)) (sym (is_left left left' k less i other))
    ];
  }
    where
      now : (a b c d e : Bool) → b ≡ true → c ≡ true → d ≡ false
          → ((a || ((b && not c) && e)) || e) ≡ (a || ((b && not d) && e))
      now a b c d e p q r = rw (p, q, r) (both a)
        where
          both : (a : Bool) → ((a || ((true && not true) && e)) || e) ≡ (a || ((true && not false) && e))
          both true = refl
          both false = refl

  pub spread_all : (left : ℕ) (rows : List ℕ) → Spread to more old left rows → ((i : ℕ) → is_set left i ≡ false) → (i j : ℕ)
      → is_bit rows i j ≡ (is_bit old i j || (is_set to i && is_set more j))
  spread_all left rows s none i j = s.bits i j
      ∙ ap (λ x. is_bit old i j || ((is_set to i && not x) && is_set more j)) (none i)
      ∙ ap (λ x. is_bit old i j || (x && is_set more j)) (and_all (is_set to i))

-- the rows of the indices of a set lack one index, but for those that are left
pub record Lacking (of p : ℕ) (old : List ℕ) (left : ℕ) (rows : List ℕ) : Type 0 where
  pub size : length rows ≡ 32
  pub within : (i : ℕ) → is_set left i ≡ true → is_set of i ≡ true
  pub bits : (i j : ℕ) → is_bit rows i j ≡ (is_bit old i j && not ((is_set of i && not (is_set left i)) && nat_eq j p))

module _ (of p : ℕ) (old : List ℕ) where
  pub lacking_none : length old ≡ 32 → Lacking of p old of old
  lacking_none size = record
      { size = size; within = λ i h. h; bits = λ i j. none (is_bit old i j) (is_set of i) (nat_eq j p) }
    where
      none : (a b c : Bool) → a ≡ (a && not ((b && not b) && c))
      none true true c = refl
      none true false c = refl
      none false b c = refl

  pub lacking_next : (left left' k : ℕ) (rows : List ℕ) (row : ℕ) → Lacking of p old left rows → k < 32 → is_set left k ≡ true
      → ((i : ℕ) → is_set left' i ≡ (is_set left i && not (nat_eq i k)))
      → ((j : ℕ) → is_set row j ≡ (is_bit rows k j && not (nat_eq j p)))
      → Lacking of p old left' (slice_set rows k row)
  lacking_next left left' k rows row s low here less row_is = record {
    size = length-set rows k row ∙ s.size;
    within = λ i h. s.within i (was_left left left' k less i h);
    bits = λ i j. elim (cases_eq i k) [
      | inl e ↦
          subst (λ x. is_bit (slice_set rows k row) x
          j ≡ (is_bit old x j && not ((is_set of x && not (is_set left' x)) && nat_eq j p))) (sym e)
          (ap (λ x. is_set x j) (get_or-set_same rows k row 0 (omega (arith, s.size))) ∙ row_is j
          ∙ ap (λ x. x && not (nat_eq j p)) (s.bits k j)
          ∙ now (is_bit old k j) (is_set of k) (is_set left k) (is_set left' k) (nat_eq j p) (s.within k here) here
          (is_passed left left' k less))
      | inr other ↦ ap (λ x. is_set x j) (get_or-set_other rows k i row 0 other) ∙ s.bits i j
          ∙ ap (λ x. is_bit old i j && not ((is_set of i && not x) && nat_eq j p)) (sym (is_left left left' k less i other))
    ];
  }
    where
      now : (a b c d e : Bool) → b ≡ true → c ≡ true → d ≡ false
          → ((a && not ((b && not c) && e)) && not e) ≡ (a && not ((b && not d) && e))
      now a b c d e p q r = rw (p, q, r) (both a)
        where
          both : (a : Bool) → ((a && not ((true && not true) && e)) && not e) ≡ (a && not ((true && not false) && e))
          both true = refl
          both false = refl

  -- the set has all rows that had the index, and the index's own is emptied
  pub lacking_all : (left : ℕ) (rows : List ℕ) → Lacking of p old left rows → ((i : ℕ) → is_set left i ≡ false) → p < 32
      → ((i : ℕ) → is_bit old i p ≡ true → is_set of i ≡ true) → (i j : ℕ)
      → is_bit (slice_set rows p 0) i j ≡ (is_bit old i j && (not (nat_eq i p) && not (nat_eq j p)))
  lacking_all left rows s none low all = emptied old rows p (omega (arith, low, s.size)) (λ i j. s.bits i j
      ∙ ap (λ x. is_bit old i j && not ((is_set of i && not x) && nat_eq j p)) (none i)
      ∙ whole (is_bit old i j) (is_set of i) (nat_eq j p)
      (λ bit e. all i (subst (λ x. is_bit old i x ≡ true) (eqb-true j p e) bit)))
    where
      whole : (a b e : Bool) → (a ≡ true → e ≡ true → b ≡ true)
          → (a && not ((b && not false) && e)) ≡ (a && not e)
      whole false b e h = refl
      whole true true true h = refl
      whole true true false h = refl
      whole true false true h = absurd (both_ways _ refl (h refl refl))
      whole true false false h = refl

-- the union of the rows of the indices of a set, but for those that are left
pub record United (rows : List ℕ) (of left found : ℕ) : Type 0 where
  pub within : (i : ℕ) → is_set left i ≡ true → is_set of i ≡ true
  pub bits : (j : ℕ) → (is_set found j ≡ true)
      ↔ ((i : ℕ) × (is_bit rows i j ≡ true) × (is_set of i ≡ true) × (is_set left i ≡ false))

module _ (rows : List ℕ) (of : ℕ) where
  pub united_none : United rows of of 0
  united_none = record {
    within = λ i h. h;
    bits = λ j. (
      (λ h. absurd (both_ways _ (none_in j) h)),
      (λ h. let (i, bit, there, gone) = h in absurd (both_ways _ gone there)),
    );
  }

  pub united_next : (left left' k found found' : ℕ) → United rows of left found → is_set left k ≡ true
      → ((i : ℕ) → is_set left' i ≡ (is_set left i && not (nat_eq i k)))
      → ((j : ℕ) → is_set found' j ≡ (is_set found j || is_bit rows k j)) → United rows of left' found'
  united_next left left' k found found' u here less more = record {
    within = λ i h. u.within i (was_left left left' k less i h);
    bits = λ j. (
      (λ h. elim (or_cases (is_set found j) _ (sym (more j) ∙ h)) [
        | inl old ↦ let (i, bit, there, gone) = (u.bits j).0 old in
            (i, bit, there, less i ∙ ap (λ x. x && not (nat_eq i k)) gone)
        | inr new ↦ (k, new, u.within k here, is_passed left left' k less)
      ]),
      (λ h. let (i, bit, there, gone) = h in elim (cases_eq i k) [
        | inl e ↦ more j ∙ or_right (is_set found j) _ (subst (λ x. is_bit rows x j ≡ true) e bit)
        | inr other ↦ more j ∙ or_left (is_set found j) _
            ((u.bits j).1 (i, bit, there, sym (is_left left left' k less i other) ∙ gone))
      ]),
    );
  }

  pub united_all : (left found : ℕ) → United rows of left found → ((i : ℕ) → is_set left i ≡ false) → (j : ℕ)
      → (is_set found j ≡ true) ↔ ((i : ℕ) × (is_bit rows i j ≡ true) × (is_set of i ≡ true))
  united_all left found u none j = (
    (λ h. let (i, bit, there, gone) = (u.bits j).0 h in (i, bit, there)),
    (λ h. let (i, bit, there) = h in (u.bits j).1 (i, bit, there, none i)),
  )

and_swap : (a b : Bool) → (a && b) ≡ (b && a)
and_swap true true = refl
and_swap true false = refl
and_swap false true = refl
and_swap false false = refl

-- a relation stays one: with more, or without an index
pub transposed_more : (rows columns : List ℕ) (to more : ℕ) (new turned : List ℕ) → IsRelation rows columns → length new ≡ 32
    → ((i j : ℕ) → is_bit new i j ≡ (is_bit rows i j || (is_set to i && is_set more j)))
    → ((i j : ℕ) → is_bit turned i j ≡ (is_bit columns i j || (is_set more i && is_set to j))) → IsRelation new turned
transposed_more rows columns to more new turned r size new_is turned_is = record {
  size = size;
  transposed = λ i j. turned_is j i ∙ ap (λ x. x || (is_set more j && is_set to i)) (r.transposed i j)
      ∙ ap (λ x. is_bit rows i j || x) (and_swap (is_set more j) (is_set to i)) ∙ sym (new_is i j);
}

pub transposed_without : (rows columns : List ℕ) (p : ℕ) (new turned : List ℕ) → IsRelation rows columns → length new ≡ 32
    → ((i j : ℕ) → is_bit new i j ≡ (is_bit rows i j && (not (nat_eq i p) && not (nat_eq j p))))
    → ((i j : ℕ) → is_bit turned i j ≡ (is_bit columns i j && (not (nat_eq i p) && not (nat_eq j p)))) → IsRelation new turned
transposed_without rows columns p new turned r size new_is turned_is = record {
  size = size;
  transposed = λ i j. turned_is j i ∙ ap (λ x. x && (not (nat_eq j p) && not (nat_eq i p))) (r.transposed i j)
      ∙ ap (λ x. is_bit rows i j && x) (and_swap (not (nat_eq j p)) (not (nat_eq i p))) ∙ sym (new_is i j);
}

-- all edges from these indices to another are there
pub all_there : (pairs : List ℕ) (from p column new : ℕ) → ((i : ℕ) → is_set column i ≡ is_bit pairs i p)
    → ((i : ℕ) → is_set new i ≡ (is_set from i && not (is_set column i))) → new ≡ 0 → (i j : ℕ)
    → is_bit pairs i j ≡ (is_bit pairs i j || (is_set from i && nat_eq j p))
all_there pairs from p column new column_is new_is none i j = either (is_bit pairs i j) (is_set from i && nat_eq j p) (λ h.
    let (a, b) = and_parts (is_set from i) _ h in
    subst (λ x. is_bit pairs i x ≡ true) (sym (eqb-true j p b)) (sym (column_is i) ∙ there (is_set from i) (is_set column i)
    (sym (new_is i) ∙ ap (λ x. is_set x i) none ∙ none_in i) a))
  where
    there : (a b : Bool) → (a && not b) ≡ false → a ≡ true → b ≡ true
    there a true h e = refl
    there true false h e = absurd (both_ways _ h refl)
    there false false h e = absurd (both_ways _ refl e)

    either : (a b : Bool) → (b ≡ true → a ≡ true) → a ≡ (a || b)
    either true b h = refl
    either false true h = h refl
    either false false h = refl

-- what is reached, joined at the first n indices
pub record ClosedBelow (rows : List ℕ) (n : ℕ) (reached : List ℕ) : Type 0 where
  pub each : (i j : ℕ) → is_bit rows i j ≡ true → is_bit reached i j ≡ true
  pub joins : (i k j : ℕ) → k < n → is_bit reached i k ≡ true → is_bit reached k j ≡ true → is_bit reached i j ≡ true
  pub leads : (i j : ℕ) → is_bit reached i j ≡ true → Leads rows i j

module _ (rows : List ℕ) where
  pub leads_step : (i j : ℕ) → is_bit rows i j ≡ true → Leads rows i j
  leads_step i j h = (j, h, reaches_self (Holds (is_bit rows)) j)

  pub leads_reach : (i j : ℕ) → Leads rows i j → Reaches (Holds (is_bit rows)) i j
  leads_reach i j (k, step, rest) = reaches_step (Holds (is_bit rows)) i k j step rest

  pub leads_join : (i j k : ℕ) → Leads rows i j → Leads rows j k → Leads rows i k
  leads_join i j k (m, step, rest) second = (m, step, reaches_trans (Holds (is_bit rows)) m j k rest (leads_reach j k second))

  pub closed_next : (n : ℕ) (old new : List ℕ) → ClosedBelow rows n old
      → ((i j : ℕ) → (is_bit new i j ≡ true) ↔ ((is_bit old i j ≡ true) ⊎ ((is_bit old i n ≡ true) × (is_bit old n j ≡ true))))
      → ClosedBelow rows (n + 1) new
  closed_next n old new c more = record {
    each = λ i j h. (more i j).1 (inl (c.each i j h));
    joins = joins;
    leads = λ i j h. elim ((more i j).0 h) [ inl o ↦ c.leads i j o | inr k ↦ leads_join i n j (c.leads i n k.0) (c.leads n j k.1) ];
  }
    where
      to_n : (i : ℕ) → is_bit new i n ≡ true → is_bit old i n ≡ true
      to_n i h = elim ((more i n).0 h) [ inl o ↦ o | inr k ↦ k.0 ]

      from_n : (j : ℕ) → is_bit new n j ≡ true → is_bit old n j ≡ true
      from_n j h = elim ((more n j).0 h) [ inl o ↦ o | inr k ↦ k.1 ]

      joins : (i k j : ℕ) → k < n + 1 → is_bit new i k ≡ true → is_bit new k j ≡ true → is_bit new i j ≡ true
      joins i k j below first second = elim (cases_eq k n) [
        | inl e ↦ (more i j).1 (inr (
          to_n i (subst (λ x. is_bit new i x ≡ true) e first),
          from_n j
              (subst (λ x. is_bit new x j ≡ true) e second),
        ))
        | inr other ↦
            let low : k < n = omega arith in
            elim ((more i k).0 first) [
              | inl a ↦ elim ((more k j).0 second) [
                | inl b ↦ (more i j).1 (inl (c.joins i k j low a b))
                | inr b ↦ (more i j).1 (inr (c.joins i k n low a b.0, b.1))
              ]
              | inr a ↦ elim ((more k j).0 second) [
                | inl b ↦ (more i j).1 (inr (a.0, c.joins n k j low a.1 b))
                | inr b ↦ (more i j).1 (inr (a.0, b.1))
              ]
            ]
      ]

  pub closed_all : (n : ℕ) (reached : List ℕ) → 32 ≤ n → length rows ≡ 32 → ClosedBelow rows n reached → IsClosure rows reached
  closed_all n reached high size c = record {
    each = c.each;
    joins = λ i k j first second.
        let (m, step, rest) = c.leads k j second in
        let low : k < 32 = row_low rows k m size step in
        c.joins i k j (omega arith) first second;
    leads = c.leads;
  }
