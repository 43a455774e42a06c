-- Each list of numbers has an order that agrees with a given relation, if the relation is decided and has no cycle.
use Rattle.std.proofs.Common.{◌≡◌, ◌<◌, ◌≤◌, ◌+◌, ◌⊎◌, ◌↔◌, ℕ, zero, suc, List, [], ◌∷◌, length, Some, refl, sym, ap, ◌∙◌, subst, inl, inr, arith}
use Rattle.std.specs.Prelude.{slice_get}
use Rattle.std.proofs.lemmas.Bool.{cases_eq}
use Rattle.sgt_classes.proofs.ClosedPaths.{nothing_there}

-- the relation has a path from t through the others to u
abbrev pub IsPathBy : (ℕ → ℕ → Type 0) → ℕ → List ℕ → ℕ → Type 0
IsPathBy R t [] u = R t u
IsPathBy R t (v ∷ others) u = R t v × IsPathBy R v others u

-- it has no path from a number to itself
abbrev pub HasNoCycle : (ℕ → ℕ → Type 0) → Type 0
HasNoCycle R = (t : ℕ) (others : List ℕ) → ¬ IsPathBy R t others t

-- for each two numbers it is decided whether it holds
abbrev pub IsDecided : (ℕ → ℕ → Type 0) → Type 0
IsDecided R = (t u : ℕ) → R t u ⊎ (R t u → ⊥)

-- the number is in the list
abbrev pub StandsIn : List ℕ → ℕ → Type 0
StandsIn xs t = (i : ℕ) × (slice_get xs i ≡ Some t)

-- the order has each member once and no other number, and the relation leads from earlier to later ones
pub record IsOrderBy (R : ℕ → ℕ → Type 0) (members order : List ℕ) : Type 0 where
  pub once : (i j t : ℕ) → slice_get order i ≡ Some t → slice_get order j ≡ Some t → i ≡ j
  pub all : (t : ℕ) → StandsIn members t ↔ StandsIn order t
  pub leads_on : (i j t u : ℕ) → R t u → slice_get order i ≡ Some t → slice_get order j ≡ Some u → i < j

-- the relation, or a path of two steps through x
abbrev pub OrBy : ℕ → (ℕ → ℕ → Type 0) → ℕ → ℕ → Type 0
OrBy x R t u = R t u ⊎ (R t x × R x u)

-- it is decided too
or_by_decided : (x : ℕ) (R : ℕ → ℕ → Type 0) → IsDecided R → IsDecided (OrBy x R)
or_by_decided x R decided t u = go (decided t u) (decided t x) (decided x u)
  where
    go : R t u ⊎ (R t u → ⊥) → R t x ⊎ (R t x → ⊥) → R x u ⊎ (R x u → ⊥) → OrBy x R t u ⊎ (OrBy x R t u → ⊥)
    go (inl is) a b = inl (inl is)
    go (inr not_so) (inl first) (inl second) = inl (inr (first, second))
    go (inr not_so) (inr none) b = inr (λ w. elim w [ inl is ↦ not_so is | inr by ↦ none by.0 ])
    go (inr not_so) (inl first) (inr none) = inr (λ w. elim w [ inl is ↦ not_so is | inr by ↦ none by.1 ])

-- a path of it gives a path of the relation
path_expanded : (x : ℕ) (R : ℕ → ℕ → Type 0) (t u : ℕ) (others : List ℕ) → IsPathBy (OrBy x R) t others u
    → (more : List ℕ) × IsPathBy R t more u
path_expanded x R t u [] (inl is) = ([], is)
path_expanded x R t u [] (inr by) = (x ∷ [], (by.0, by.1))
path_expanded x R t u (v ∷ others) path = go path.0 (path_expanded x R v u others path.1)
  where
    go : OrBy x R t v → ((more : List ℕ) × IsPathBy R v more u) → (more : List ℕ) × IsPathBy R t more u
    go (inl is) further = (v ∷ further.0, (is, further.1))
    go (inr by) further = (x ∷ v ∷ further.0, (by.0, (by.1, further.1)))

-- the order with x inserted at n
put : List ℕ → ℕ → ℕ → List ℕ
put order zero x = x ∷ order
put [] (suc n) x = x ∷ []
put (y ∷ order) (suc n) x = y ∷ put order n x

-- x is there
put_here : (order : List ℕ) (n x : ℕ) → n ≤ length order → slice_get (put order n x) n ≡ Some x
unfolding put
put_here order zero x within = refl
put_here [] (suc n) x within = absurd (omega (arith, within))
put_here (y ∷ order) (suc n) x within = put_here order n x (omega (arith, within))

-- the others still are
put_there : (order : List ℕ) (n x k t : ℕ) → slice_get order k ≡ Some t → StandsIn (put order n x) t
unfolding put
put_there order zero x k t at = (suc k, at)
put_there [] (suc n) x k t at = absurd (nothing_there k t at)
put_there (y ∷ order) (suc n) x zero t at = (0, at)
put_there (y ∷ order) (suc n) x (suc k) t at = let w = put_there order n x k t at in (suc w.0, w.1)

-- t was in the order before the insertion: at i, if i is below n, and else one position earlier
pub record IsMoved (order : List ℕ) (n i t : ℕ) : Type 0 where
  pub place : ℕ
  pub stood : slice_get order place ≡ Some t
  pub moved : ((place < n) × (i ≡ place)) ⊎ ((n ≤ place) × (i ≡ place + 1))

-- each number of the longer order is x or was in the order
put_cases : (order : List ℕ) (n x i t : ℕ) → n ≤ length order → slice_get (put order n x) i ≡ Some t
    → ((t ≡ x) × (i ≡ n)) ⊎ IsMoved order n i t
unfolding put
put_cases order zero x zero t within at = inl ((let same : x ≡ t = cc in sym same), refl)
put_cases order zero x (suc i) t within at = inr (record {
  place = i;
  stood = at;
  moved = inr (omega arith, omega arith);
})
put_cases [] (suc n) x i t within at = absurd (omega (arith, within))
put_cases (y ∷ order) (suc n) x zero t within at = inr (record {
  place = 0;
  stood = at;
  moved = inl (omega arith, refl);
})
put_cases (y ∷ order) (suc n) x (suc i) t within at = elim (put_cases order n x i t (omega (arith, within)) at) [
  | inl w ↦ inl (w.0, ap suc w.1)
  | inr w ↦ inr (record {
    place = suc w.place;
    stood = w.stood;
    moved = elim (w.moved) [
      | inl v ↦ inl (omega (arith, v.0), ap suc v.1)
      | inr v ↦ inr (omega (arith, v.0), omega (arith, v.1))
    ];
  })
]

-- where x can be inserted: just after the last number from which the relation leads to x
pub record IsGap (R : ℕ → ℕ → Type 0) (order : List ℕ) (x n : ℕ) : Type 0 where
  pub within : n ≤ length order
  pub after : (k y : ℕ) → n ≤ k → slice_get order k ≡ Some y → ¬ R y x
  pub last : (m : ℕ) → n ≡ suc m → (z : ℕ) × (slice_get order m ≡ Some z) × R z x

-- there is such a position
gap : (R : ℕ → ℕ → Type 0) → IsDecided R → (order : List ℕ) (x : ℕ) → (n : ℕ) × IsGap R order x n
gap R decided [] x = (
  0,
  record {
    within = omega arith;
    after = λ k y most at. absurd (nothing_there k y at);
    last = λ m none. absurd (omega (arith, none));
  },
)
gap R decided (y ∷ order) x = let further = gap R decided order x in go further.0 further.1 (decided y x)
  where
    front : (z : ℕ) → slice_get (y ∷ order) 0 ≡ Some z → y ≡ z
    front z at = cc

    go : (n : ℕ) → IsGap R order x n → R y x ⊎ (R y x → ⊥) → (m : ℕ) × IsGap R (y ∷ order) x m
    go (suc n) further choice = (
      suc (suc n),
      record {
        within = let within = further.within in omega (arith, within);
        after = later;
        last = λ m is. let same : m ≡ suc n = omega (arith, is) in
            subst (λ l. (z : ℕ) × (slice_get (y ∷ order) l ≡ Some z) × R z x) (sym same) (further.last n refl);
      },
    )
      where
        later : (k z : ℕ) → suc (suc n) ≤ k → slice_get (y ∷ order) k ≡ Some z → ¬ R z x
        later zero z most at = absurd (omega (arith, most))
        later (suc k) z most at = further.after k z (omega (arith, most)) at
    go zero further (inl is) = (
      1,
      record {
        within = omega arith;
        after = later;
        last = λ m one. let same : m ≡ 0 = omega (arith, one) in
            subst (λ l. (z : ℕ) × (slice_get (y ∷ order) l ≡ Some z) × R z x) (sym same) (y, refl, is);
      },
    )
      where
        later : (k z : ℕ) → 1 ≤ k → slice_get (y ∷ order) k ≡ Some z → ¬ R z x
        later zero z most at = absurd (omega (arith, most))
        later (suc k) z most at = further.after k z (omega arith) at
    go zero further (inr not_so) = (
      0,
      record {
        within = omega arith;
        after = later;
        last = λ m none. absurd (omega (arith, none));
      },
    )
      where
        later : (k z : ℕ) → 0 ≤ k → slice_get (y ∷ order) k ≡ Some z → ¬ R z x
        later zero z most at = λ is. not_so (subst (λ w. R w x) (sym (front z at)) is)
        later (suc k) z most at = further.after k z (omega arith) at

-- the order with x inserted there
put_ordered : (R : ℕ → ℕ → Type 0) (x n : ℕ) (members order : List ℕ) → ¬ R x x → IsOrderBy (OrBy x R) members order
    → ¬ StandsIn order x → IsGap R order x n → IsOrderBy R (x ∷ members) (put order n x)
put_ordered R x n members order irreflexive ordered absent gap = record {
  once = λ i j t first second. once i j t (put_cases order n x i t gap.within first) (put_cases order n x j t gap.within second);
  all = λ t. (from t, to t);
  leads_on = λ i j t u is first second. leads i j t u is (put_cases order n x i t gap.within first)
      (put_cases order n x j u gap.within second);
}
  where
    once : (i j t : ℕ) → ((t ≡ x) × (i ≡ n)) ⊎ IsMoved order n i t → ((t ≡ x) × (j ≡ n)) ⊎ IsMoved order n j t → i ≡ j
    once i j t (inl w) (inl v) = w.1 ∙ sym v.1
    once i j t (inl w) (inr v) = absurd (absent (v.place, subst (λ y. slice_get order v.place ≡ Some y) w.0 v.stood))
    once i j t (inr w) (inl v) = absurd (absent (w.place, subst (λ y. slice_get order w.place ≡ Some y) v.0 w.stood))
    once i j t (inr w) (inr v) =
        let same = ordered.once w.place v.place t w.stood v.stood in
        let first = w.moved in
        let second = v.moved in omega (arith, same, first, second)

    from : (t : ℕ) → StandsIn (x ∷ members) t → StandsIn (put order n x) t
    from t (zero, at) = (n, put_here order n x gap.within ∙ at)
    from t (suc i, at) = let w = (ordered.all t).0 (i, at) in put_there order n x w.0 t w.1

    to : (t : ℕ) → StandsIn (put order n x) t → StandsIn (x ∷ members) t
    to t at = elim (put_cases order n x at.0 t gap.within at.1) [
      | inl w ↦ (0, ap Some (sym w.0))
      | inr w ↦ let v = (ordered.all t).1 (w.place, w.stood) in (suc v.0, v.1)
    ]

    -- the relation leads from x to no number before n
    not_before : (k u : ℕ) → k < n → slice_get order k ≡ Some u → ¬ R x u
    not_before k u less at = λ is. go n refl less is
      where
        go : (m : ℕ) → n ≡ m → k < m → R x u → ⊥
        go zero same below is = omega (arith, below)
        go (suc m) same below is =
            let z = gap.last m same in
            let turned = ordered.leads_on m k z.0 u (inr (z.2, is)) z.1 at in omega (arith, turned, below)

    leads : (i j t u : ℕ) → R t u → ((t ≡ x) × (i ≡ n)) ⊎ IsMoved order n i t → ((u ≡ x) × (j ≡ n)) ⊎ IsMoved order n j u → i < j
    leads i j t u is (inl w) (inl v) =
        absurd (irreflexive (subst (λ y. R y x) w.0 (subst (λ y. R t y) v.0 is)))
    leads i j t u is (inl w) (inr v) = elim (v.moved) [
      | inl a ↦ absurd (not_before v.place u a.0 v.stood (subst (λ y. R y u) w.0 is))
      | inr a ↦ omega (arith, w.1, a.0, a.1)
    ]
    leads i j t u is (inr w) (inl v) = elim (w.moved) [
      | inl a ↦ omega (arith, v.1, a.0, a.1)
      | inr a ↦ absurd (gap.after w.place t a.0 w.stood (subst (λ y. R t y) v.0 is))
    ]
    leads i j t u is (inr w) (inr v) =
        let less = ordered.leads_on w.place v.place t u (inl is) w.stood v.stood in
        let first = w.moved in
        let second = v.moved in omega (arith, less, first, second)

-- it is decided whether a number is in a list
stands : (xs : List ℕ) (t : ℕ) → StandsIn xs t ⊎ (StandsIn xs t → ⊥)
stands [] t = inr (λ at. nothing_there at.0 t at.1)
stands (y ∷ xs) t = go (cases_eq y t) (stands xs t)
  where
    go : (y ≡ t) ⊎ (y ≡ t → ⊥) → StandsIn xs t ⊎ (StandsIn xs t → ⊥) → StandsIn (y ∷ xs) t ⊎ (StandsIn (y ∷ xs) t → ⊥)
    go (inl same) further = inl (0, ap Some same)
    go (inr apart) (inl w) = inl (suc w.0, w.1)
    go (inr apart) (inr none) = inr never
      where
        never : StandsIn (y ∷ xs) t → ⊥
        never (zero, at) = apart cc
        never (suc i, at) = none (i, at)

-- if x is in the order already, the order stays
again_ordered : (R : ℕ → ℕ → Type 0) (x : ℕ) (members order : List ℕ) → IsOrderBy (OrBy x R) members order → StandsIn order x
    → IsOrderBy R (x ∷ members) order
again_ordered R x members order ordered there = record {
  once = ordered.once;
  all = λ t. (from t, λ at. let w = (ordered.all t).1 at in (suc w.0, w.1));
  leads_on = λ i j t u is first second. ordered.leads_on i j t u (inl is) first second;
}
  where
    from : (t : ℕ) → StandsIn (x ∷ members) t → StandsIn order t
    from t (zero, at) = (there.0, there.1 ∙ at)
    from t (suc i, at) = (ordered.all t).0 (i, at)

-- Insert the members one by one. To add x, order the others by `OrBy x R`, which has no cycle either.
pub ordered_by : (R : ℕ → ℕ → Type 0) (members : List ℕ) → IsDecided R → HasNoCycle R → (order : List ℕ) × IsOrderBy R members order
ordered_by R [] decided acyclic = (
  [],
  record {
    once = λ i j t first second. absurd (nothing_there i t first);
    all = λ t. (λ at. at, λ at. at);
    leads_on = λ i j t u is first second. absurd (nothing_there i t first);
  },
)
ordered_by R (x ∷ members) decided acyclic =
    let further = ordered_by (OrBy x R) members (or_by_decided x R decided)
    (λ t others path. let w = path_expanded x R t t others path in acyclic t w.0 w.1) in
    let hole = gap R decided further.0 x in
    elim (stands further.0 x) [
      | inl there ↦ (further.0, again_ordered R x members further.0 further.1 there)
      | inr absent ↦ (put further.0 hole.0 x, put_ordered R x hole.0 members further.0 (acyclic x []) further.1 absent hole.1)
    ]
