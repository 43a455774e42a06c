-- The search forward over rows of indices, depth first.
use Rattle.std.specs.Prelude.{◌≡◌, ◌≢◌, ℕ, ◌<◌, ◌≤◌, ◌⊎◌, ◌↔◌, Bool, true, false, not, ◌&&◌, nat_eq, List, [], ◌∷◌, ◌++◌, length, slice_index, cond}
use Rattle.std.proofs.Common.{zero, suc, refl, sym, ◌∙◌, ap, subst, inl, inr, arith}
use Rattle.std.proofs.lemmas.Bool.{eqb-true, eq-eqb, and_from, both_ways, cases_lt, false_from_ne_true, cases_eq}
use Rattle.sgt_model.specs.Paths.{PathOf, last_of, Member, Distinct}
use Rattle.sgt_model.proofs.Paths.{Within, last_of-append}
use Rattle.sgt_cycle.specs.Indices.{is_set, is_bit, indices_below, indices}
use Rattle.sgt_cycle.specs.Path.{Holds, IsPath, NoPath, Follows}
use Rattle.sgt_model.proofs.Conditions.{distinct_fits}
use Rattle.sgt_cycle.proofs.Members.{member_push, distinct_push}
use Rattle.sgt_cycle.proofs.Searched.{closed_path}
use Rattle.sgt_cycle.proofs.Bits.{none_in}

-- the members of the indices of a set
pub indices_member : (n set t : ℕ) → Member t (indices_below n set) ↔ ((t < n) × (is_set set t ≡ true))
unfolding indices_below
indices_member zero set t = ((λ m. absurd m), (λ h. absurd (omega (arith, h.0))))
indices_member (suc n) set t = go (indices_member n set t) (is_set set n) refl
  where
    go : (Member t (indices_below n set) ↔ ((t < n) × (is_set set t ≡ true))) → (b : Bool) → is_set set n ≡ b
        → Member t (cond b (n ∷ indices_below n set) (indices_below n set)) ↔ ((t < suc n) × (is_set set t ≡ true))
    go old true e = (
      (λ m. elim m [
        | inl same ↦ (omega arith, subst (λ x. is_set set x ≡ true) (sym same) e)
        | inr k ↦ let h = old.0 k in let low : t < n =
            h.0 in (omega arith, h.1)
      ]),
      (λ h. let low : t < suc n = h.0 in elim (cases_eq t n) [ inl same ↦ inl same | inr other ↦ inr (old.1 (omega arith, h.1)) ]),
    )
    go old false e = (
      (λ m. let h = old.0 m in let low : t < n = h.0 in (omega arith, h.1)),
      (λ h. let low : t < suc n = h.0 in elim (cases_eq t n)
          [ inl same ↦ absurd (both_ways _ e (subst (λ x. is_set set x ≡ true) same h.1)) | inr other ↦ old.1 (omega arith, h.1) ]),
    )

-- the numbers below n
counted : ℕ → List ℕ
counted zero = []
counted (suc n) = n ∷ counted n

counted_length : (n : ℕ) → length (counted n) ≡ n
unfolding counted
counted_length zero = refl
counted_length (suc n) = ap suc (counted_length n)

counted_member : (n t : ℕ) → t < n → Member t (counted n)
unfolding counted
counted_member zero t below = absurd (omega arith)
counted_member (suc n) t below = elim (cases_eq t n) [ inl e ↦ inl e | inr other ↦ inr (counted_member n t (omega arith)) ]

-- a path begins with the source, where it has an index
abbrev pub First : ℕ → List ℕ → Type 0
First source [] = Unit {0}
First source (x ∷ path) = x ≡ source

-- what the search keeps: the path that it is on, and the indices that it has not met
pub record Searching (rows : List ℕ) (source targets fresh : ℕ) (path : List ℕ) : Type 0 where
  pub begins : First source path
  pub follows : Follows (is_bit rows) path
  pub distinct : Distinct path
  pub met : (x : ℕ) → Member x path → (x < 32) × (is_set fresh x ≡ false)
  pub source_met : is_set fresh source ≡ false
  pub done : (a : ℕ) → is_set fresh a ≡ false → Member a
      path ⊎ ((is_set targets a ≡ false) × ((b : ℕ) → is_bit rows a b ≡ true → is_set fresh b ≡ false))

module _ (test : ℕ → ℕ → Bool) where
  path_push : (t : ℕ) (q : List ℕ) (here next : ℕ) → PathOf (Holds test) t (q ++ here ∷ []) → Holds test here next
      → PathOf (Holds test) t ((q ++ here ∷ []) ++ next ∷ [])
  path_push t [] here next p h = (p.0, (h, tt))
  path_push t (x ∷ q) here next p h = (p.0, path_push x q here next p.1 h)

  path_front : (t : ℕ) (q : List ℕ) (here : ℕ) → PathOf (Holds test) t (q ++ here ∷ []) → PathOf (Holds test) t q
  path_front t [] here p = tt
  path_front t (x ∷ q) here p = (p.0, path_front x q here p.1)

  follows_push : (q : List ℕ) (here next : ℕ) → Follows test (q ++ here ∷ []) → Holds test here next
      → Follows test ((q ++ here ∷ []) ++ next ∷ [])
  follows_push [] here next p h = (h, tt)
  follows_push (x ∷ q) here next p h = path_push x q here next p h

  follows_front : (q : List ℕ) (here : ℕ) → Follows test (q ++ here ∷ []) → Follows test q
  follows_front [] here p = tt
  follows_front (x ∷ q) here p = path_front x q here p

first_push : (source : ℕ) (q : List ℕ) (here next : ℕ) → First source (q ++ here ∷ []) → First source ((q ++ here ∷ []) ++ next ∷ [])
first_push source [] here next f = f
first_push source (x ∷ q) here next f = f

first_front : (source : ℕ) (q : List ℕ) (here : ℕ) → First source (q ++ here ∷ []) → First source q
first_front source [] here f = tt
first_front source (x ∷ q) here f = f

distinct_front : (q : List ℕ) (here : ℕ) → Distinct (q ++ here ∷ []) → Distinct q
distinct_front [] here d = tt
distinct_front (x ∷ q) here d = ((λ m. d.0 ((member_push x q here).1 (inl m))), distinct_front q here d.1)

module _ (rows : List ℕ) (source targets : ℕ) where
  pub search_starts : (fresh : ℕ) → source < 32 → ((i : ℕ) → i < 32 → is_set fresh i ≡ not (nat_eq i source))
      → ((i : ℕ) → 32 ≤ i → is_set targets i ≡ false) → ((i j : ℕ) → 32 ≤ i → is_bit rows i j ≡ false)
      → Searching rows source targets fresh (source ∷ [])
  search_starts fresh low others no_target no_row = record {
    begins = refl;
    follows = tt;
    distinct = ((λ m. m), tt);
    met =
        λ x m. elim m [
          | inl e ↦ (subst (λ y. y < 32) (sym e) low, subst (λ y. is_set fresh y ≡ false) (sym e) met_source)
          | inr none ↦
              absurd none
        ];
    source_met = met_source;
    done = λ a old. elim (cases_lt a 32) [
      | inl below ↦ elim (cases_eq a source) [
        | inl same ↦ inl (inl same)
        | inr other ↦ absurd (both_ways _ old (others a below
            ∙ ap not (false_from_ne_true (nat_eq a source) (λ t. other (eqb-true a source t)))))
      ]
      | inr high ↦ inr (no_target a high, λ b step. absurd (both_ways _ (no_row a b high) step))
    ];
  }
    where
      met_source : is_set fresh source ≡ false
      met_source = others source low ∙ ap not (eq-eqb source source refl)

  -- a path of one more index fits
  pub search_fits : (fresh : ℕ) (path : List ℕ) → Searching rows source targets fresh path → length path ≤ 32
  search_fits fresh path s =
      omega (arith, distinct_fits path (counted 32) s.distinct (λ x m. counted_member 32 x (s.met x m).0), counted_length 32)

  module _ (fresh : ℕ) (q : List ℕ) (here : ℕ) (s : Searching rows source targets fresh (q ++ here ∷ [])) where
    pub search_here : here < 32
    search_here = (s.met here ((member_push here q here).1 (inr refl))).0

    -- a step to an index that was not met
    pub search_push : (next fresh' : ℕ) → next < 32 → is_bit rows here next ≡ true → is_set fresh next ≡ true
        → ((i : ℕ) → is_set fresh' i ≡ (is_set fresh i && not (nat_eq i next)))
        → Searching rows source targets fresh' ((q ++ here ∷ []) ++ next ∷ [])
    search_push next fresh' low step new less = record {
      begins = first_push source q here next s.begins;
      follows = follows_push (is_bit rows) q here next s.follows step;
      distinct = distinct_push (q ++ here ∷ []) next s.distinct (λ m. both_ways _ (s.met next m).1 new);
      met = λ x m. elim ((member_push x (q ++ here ∷ []) next).0 m) [
        | inl old ↦ ((s.met x old).0, still x (s.met x old).1)
        | inr e ↦ (subst (λ y. y < 32) (sym e) low, subst (λ y. is_set fresh' y ≡ false) (sym e) gone)
      ];
      source_met = still source s.source_met;
      done = λ a old. elim (cases_eq a next) [
        | inl e ↦ inl ((member_push a (q ++ here ∷ []) next).1 (inr e))
        | inr other ↦ elim (s.done a (was a other old)) [
          | inl m ↦ inl ((member_push a (q ++ here ∷ []) next).1 (inl m))
          | inr h ↦ inr (h.0, λ b link. still b (h.1 b link))
        ]
      ];
    }
      where
        still : (i : ℕ) → is_set fresh i ≡ false → is_set fresh' i ≡ false
        still i e = less i ∙ ap (λ x. x && not (nat_eq i next)) e

        gone : is_set fresh' next ≡ false
        gone = less next ∙ ap (λ x. is_set fresh next && not x) (eq-eqb next next refl) ∙ ap (λ x. x && false) new

        was : (i : ℕ) → i ≢ next → is_set fresh' i ≡ false → is_set fresh i ≡ false
        was i other e = false_from_ne_true (is_set fresh i)
            (λ t. both_ways _ e (less i ∙ and_from _ _ t (ap not (false_from_ne_true (nat_eq i next) (λ u. other (eqb-true i next u))))))

    -- so there is capacity for one more
    pub search_capacity : (next : ℕ) → next < 32 → is_set fresh next ≡ true → length ((q ++ here ∷ []) ++ next ∷ []) ≤ 32
    search_capacity next low new =
        omega (
          arith,
          distinct_fits ((q ++ here ∷ []) ++ next ∷ []) (counted 32)
              (distinct_push (q ++ here ∷ []) next s.distinct (λ m. both_ways _ (s.met next m).1 new)) within,
          counted_length 32,
        )
      where
        within : Within ((q ++ here ∷ []) ++ next ∷ []) (counted 32)
        within x m = elim ((member_push x (q ++ here ∷ []) next).0 m) [
          | inl old ↦ counted_member 32 x (s.met x old).0
          | inr e ↦ counted_member 32 x (subst (λ y. y < 32) (sym e) low)
        ]

    -- back from an index whose steps all lead to indices that were met
    pub search_pop : is_set targets here ≡ false → ((b : ℕ) → is_bit rows here b ≡ true → is_set fresh b ≡ false)
        → Searching rows source targets fresh q
    search_pop no_target closed = record {
      begins = first_front source q here s.begins;
      follows = follows_front (is_bit rows) q here s.follows;
      distinct = distinct_front q here s.distinct;
      met = λ x m. s.met x ((member_push x q here).1 (inl m));
      source_met = s.source_met;
      done = λ a old. elim (s.done a old) [
        | inl m ↦ elim ((member_push a q here).0 m) [
          | inl k ↦ inl k
          | inr e ↦ inr (
            subst (λ x. is_set targets x ≡ false) (sym e) no_target,
            λ b link. closed b
                (subst (λ x. is_bit rows x b ≡ true) e link),
          )
        ]
        | inr h ↦ inr h
      ];
    }

    -- at a target the path is complete (`IsPath`)
    pub search_ends : is_set targets here ≡ true → IsPath (is_bit rows) source (indices targets) (q ++ here ∷ [])
    search_ends target = go q s.begins s.follows s.distinct
      where
        last : Member here (indices targets)
        last = (indices_member 32 targets here).1 (search_here, target)

        go : (q : List ℕ) → First source (q ++ here ∷ []) → Follows (is_bit rows) (q ++ here ∷ []) → Distinct (q ++ here ∷ [])
            → IsPath (is_bit rows) source (indices targets) (q ++ here ∷ [])
        go [] f p d =
            ([], ap (λ x. x ∷ []) f, record { distinct = ((λ m. m), tt); goes = tt; ends = subst (λ x. Member x (indices targets)) f last })
        go (x ∷ q) f p d = (
          q ++ here ∷ [],
          ap (λ y. y ∷ q ++ here ∷ []) f,
          record {
            distinct = subst (λ y. Distinct (y ∷ q ++ here ∷ [])) f d;
            goes = subst (λ y. PathOf (Holds (is_bit rows)) y (q ++ here ∷ [])) f p;
            ends = subst (λ y. Member y (indices targets)) (sym (last_of-append source q (here ∷ []))) last;
          },
        )

  -- where no path is left, none leads to a target
  pub search_none : (fresh : ℕ) → Searching rows source targets fresh [] → NoPath (is_bit rows) source (indices targets)
  search_none fresh s rest w =
      let closed : is_set fresh (last_of source rest) ≡ false = closed_path (Holds (is_bit rows)) (λ x. is_set fresh x ≡ false)
      (λ a b old link. (outside a old).1 b link) source rest s.source_met w.goes in
      both_ways _ (outside (last_of source rest) closed).0 ((indices_member 32 targets (last_of source rest)).0 w.ends).1
    where
      outside : (a : ℕ) → is_set fresh a ≡ false → (is_set targets a ≡ false) × ((b : ℕ) → is_bit rows a b ≡ true → is_set fresh b ≡ false)
      outside a old = elim (s.done a old) [ inl m ↦ absurd m | inr h ↦ h ]

-- there is no row from 32 on
pub no_row : (rows : List ℕ) (i j : ℕ) → length rows ≤ 32 → 32 ≤ i → is_bit rows i j ≡ false
no_row rows i j few high = ap (λ x. is_set x j) (beyond rows i (omega arith)) ∙ none_in j
  where
    beyond : (xs : List ℕ) (i : ℕ) → length xs ≤ i → slice_index xs i ≡ 0
    beyond [] i h = refl
    beyond (x ∷ xs) zero h = absurd (omega arith)
    beyond (x ∷ xs) (suc i) h = beyond xs i (omega arith)
