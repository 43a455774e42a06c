-- The indices stay a graph: with a transaction more, with edges into one index, without an index.
use Rattle.std.specs.Prelude.{◌≡◌, ◌≢◌, ℕ, ◌<◌, ◌≤◌, ◌⊎◌, ◌↔◌, Bool, true, false, not, ◌&&◌, ◌||◌, nat_eq, List, [], ◌∷◌, map, length, slice_index, slice_set, cond, Option, Some, None, IfSome}
use Rattle.std.proofs.Common.{zero, suc, refl, sym, ◌∙◌, ap, subst, inl, inr, arith}
use Rattle.std.proofs.lemmas.List.{get_or-set_same, get_or-set_other}
use Rattle.std.proofs.Math.ListN.{length-set}
use Rattle.std.proofs.lemmas.Bool.{eqb-true, eq-eqb, le-ltb, and_parts, and_from, or_cases, or_left, or_right, both_ways, false_from_ne_true, cases_eq}
use Rattle.sgt_model.specs.Paths.{PathOf, Member, Distinct, AtMost}
use Rattle.sgt_model.proofs.Paths.{path_map}
use Rattle.sgt_cycle.specs.Indices.{is_set, is_bit, indices}
use Rattle.sgt_cycle.specs.Path.{Holds, IsPath}
use Rattle.sgt_graph.specs.Closures.{Leads, IsClosure}
use Rattle.sgt_graph.specs.BitGraphs.{is_at, last_below, index_of, is_placed, is_pair, IsBitGraph, IsIndexVerdict, IsLeastAt}
use Rattle.sgt_graph.specs.Graphs.{IsLeastPred}
use Rattle.sgt_graph.specs.Verdicts.{IsVerdict, Inserts}
use Rattle.sgt_graph.specs.declared.verdict.Verdict.{Verdict}
use Rattle.sgt_graph.specs.declared.verdict.Verdict.TheVariants.{Accepted, Closes}
use Rattle.sgt_model.proofs.Conditions.{distinct_fits}
use Rattle.sgt_graph.proofs.RowSteps.{none_in, leads_step, leads_join}
use Rattle.sgt_graph.proofs.Placed.{same_test, placed, at_from, at_parts, placed_at, at_placed, pair_from, pair_at, accepted, closes, inserted}

last_none : (test : ℕ → Bool) → ((i : ℕ) → test i ≡ false) → (n : ℕ) → last_below n test ≡ 32
unfolding last_below
last_none test none zero = refl
last_none test none (suc n) = ap (λ b. cond b n (last_below n test)) (none n) ∙ last_none test none n

pub none_placed : (taken : ℕ) (tids : List ℕ) (u : ℕ) → ((i : ℕ) → is_set taken i ≡ false) → is_placed taken tids u ≡ false
none_placed taken tids u none =
    le-ltb (index_of taken tids u) 32 (let e : index_of taken tids u ≡ 32 =
    last_none (is_at taken tids u) (λ i. ap (λ x. x && nat_eq (slice_index tids i) u) (none i)) 32 in omega arith)

pub empty_graph : (tids pairs reached : List ℕ) → length tids ≡ 32 → ((i j : ℕ) → is_bit pairs i j ≡ false)
    → ((i j : ℕ) → is_bit reached i j ≡ false) → IsBitGraph 0 tids pairs reached
empty_graph tids pairs reached size none none_reached = record {
  size = size;
  apart = λ i j t a b. absurd (both_ways _ (none_in i) (and_parts (is_set 0 i) _ a).0);
  low = λ i h. absurd (both_ways _ (none_in i) h);
  of_taken = λ i j h. absurd (both_ways _ (none i j) h);
  closure = record {
    each = λ i j h. absurd (both_ways _ (none i j) h);
    joins = λ i j k a b. absurd (both_ways _ (none_reached i j) a);
    leads = λ i j h. absurd (both_ways _ (none_reached i j) h);
  };
  acyclic = λ i. none_reached i i;
}

-- an index that alone is taken is taken no more
pub alone_left : (taken p : ℕ) → ((i : ℕ) → is_set taken i ≡ nat_eq i p) → (i : ℕ) → is_set 0 i ≡ (is_set taken i && not (nat_eq i p))
alone_left taken p alone i = none_in i ∙ sym (ap (λ x. x && not (nat_eq i p)) (alone i) ∙ nothing (nat_eq i p))
  where
    nothing : (b : Bool) → (b && not b) ≡ false
    nothing true = refl
    nothing false = refl

-- where one index alone is taken there is no edge
module _ (taken : ℕ) (tids pairs reached : List ℕ) (g : IsBitGraph taken tids pairs reached) (p : ℕ)
    (alone : (i : ℕ) → is_set taken i ≡ nat_eq i p) where
  pub alone_none : (i j : ℕ) → is_bit pairs i j ≡ false
  alone_none i j = false_from_ne_true (is_bit pairs i j) (λ h.
      let (a, b) = g.of_taken i j h in
      let i_is : i ≡ p = eqb-true i p (sym (alone i) ∙ a) in
      let j_is : j ≡ p = eqb-true j p (sym (alone j) ∙ b) in
      both_ways _ (g.acyclic i) (subst (λ x. is_bit reached i x ≡ true) (j_is ∙ sym i_is) (g.closure.each i j h)))

  pub alone_freed : IsBitGraph 0 tids pairs reached
  alone_freed = record {
    size = g.size;
    apart = λ i j t a b. absurd (both_ways _ (none_in i) (and_parts (is_set 0 i) _ a).0);
    low = λ i h. absurd (both_ways _ (none_in i) h);
    of_taken = λ i j h. absurd (both_ways _ (alone_none i j) h);
    closure = g.closure;
    acyclic = g.acyclic;
  }

-- a transaction more, at a free index
module _ (taken : ℕ) (tids pairs reached : List ℕ) (g : IsBitGraph taken tids pairs reached) (t p taken' : ℕ) (low : p < 32)
    (is_free : is_set taken p ≡ false) (new : is_placed taken tids t ≡ false)
    (more : (i : ℕ) → is_set taken' i ≡ (is_set taken i || nat_eq i p)) where
  here : p < length tids
  here = subst (λ n. p < n) (sym g.size) low

  not_there : (i : ℕ) → is_at taken tids t i ≡ true → ⊥
  not_there i h = both_ways _ new (at_placed taken tids (placed taken tids pairs reached g) t i h)

  at_cases : (u i : ℕ) → is_at taken' (slice_set tids p t) u i ≡ true → (is_at taken tids u i ≡ true) ⊎ ((i ≡ p) × (u ≡ t))
  at_cases u i h =
      let parts = at_parts taken' (slice_set tids p t) u i h in
      elim (cases_eq i p) [
        | inl e ↦ inr (e, sym parts.1 ∙ ap (λ x. slice_index (slice_set tids p t) x) e ∙ get_or-set_same tids p t 0 here)
        | inr other ↦ elim (or_cases (is_set taken i) _ (sym (more i) ∙ parts.0)) [
          | inl old ↦ inl (at_from taken tids u i old (sym (get_or-set_other tids p i t 0 other) ∙ parts.1))
          | inr same ↦ absurd (other (eqb-true i p same))
        ]
      ]

  old_at : (u i : ℕ) → is_at taken tids u i ≡ true → is_at taken' (slice_set tids p t) u i ≡ true
  old_at u i h =
      let parts = at_parts taken tids u i h in
      let other : i ≢ p = λ e. both_ways _ is_free (subst (λ x. is_set taken x ≡ true) e parts.0) in
      at_from taken' (slice_set tids p t) u i (more i ∙ or_left (is_set taken i) _ parts.0) (get_or-set_other tids p i t 0 other ∙ parts.1)

  new_at : is_at taken' (slice_set tids p t) t p ≡ true
  new_at =
      at_from taken' (slice_set tids p t) t p (more p ∙ or_right (is_set taken p) _ (eq-eqb p p refl)) (get_or-set_same tids p t 0 here)

  pub grown : IsBitGraph taken' (slice_set tids p t) pairs reached
  grown = record {
    size = length-set tids p t ∙ g.size;
    apart = λ i j u a b. elim (at_cases u i a) [
      | inl x ↦ elim (at_cases u j b) [
        | inl y ↦ g.apart i j u x y
        | inr y ↦ absurd (not_there i (subst (λ v. is_at taken tids v i ≡ true) y.1 x))
      ]
      | inr x ↦ elim (at_cases u j b) [
        | inl y ↦ absurd (not_there j (subst (λ v. is_at taken tids v j ≡ true) x.1 y))
        | inr y ↦ x.0 ∙ sym y.0
      ]
    ];
    low = λ i h. elim (or_cases (is_set taken i) _ (sym (more i) ∙ h)) [
      | inl old ↦ g.low i old
      | inr same ↦ subst (λ x. x < 32) (sym (eqb-true i p same)) low
    ];
    of_taken = λ i j h. let both = g.of_taken i j h in
        (more i ∙ or_left (is_set taken i) _ both.0, more j ∙ or_left (is_set taken j) _ both.1);
    closure = g.closure;
    acyclic = g.acyclic;
  }

  pub grown_nodes : (u : ℕ) → is_placed taken' (slice_set tids p t) u ≡ (is_placed taken tids u || nat_eq u t)
  grown_nodes u = same_test _ _
      (λ h. elim (at_cases u (index_of taken' (slice_set tids p t) u) (placed_at taken' (slice_set tids p t) u h)) [
        | inl old ↦ or_left (is_placed taken tids u) _ (at_placed taken tids (placed taken tids pairs reached g) u _ old)
        | inr e ↦ or_right (is_placed taken tids u) _ (eq-eqb u t e.1)
      ])
      (λ h. elim (or_cases (is_placed taken tids u) _ h) [
        | inl old ↦ at_placed taken' (slice_set tids p t) (placed taken' (slice_set tids p t) pairs reached grown) u _
            (old_at u _ (placed_at taken tids u old))
        | inr e ↦ at_placed taken' (slice_set tids p t) (placed taken' (slice_set tids p t) pairs reached grown) u p
            (subst (λ v. is_at taken' (slice_set tids p t) v p ≡ true) (sym (eqb-true u t e)) new_at)
      ])

  pub grown_pairs : (u v : ℕ) → is_pair taken' (slice_set tids p t) pairs u v ≡ is_pair taken tids pairs u v
  grown_pairs u v = same_test _ _
      (λ h.
      let (i, j, a, b, step) =
      pair_at taken' (slice_set tids p t) (placed taken' (slice_set tids p t) pairs reached grown) pairs grown.of_taken u v h in
      let both = g.of_taken i j step in
      pair_from taken tids (placed taken tids pairs reached g) pairs u v i j (old u i a both.0) (old v j b both.1) ∙ step)
      (λ h.
      let (i, j, a, b, step) = pair_at taken tids (placed taken tids pairs reached g) pairs g.of_taken u v h in
      pair_from taken' (slice_set tids p t) (placed taken' (slice_set tids p t) pairs reached grown) pairs u v i j (old_at u i a)
      (old_at v j b) ∙ step)
    where
      old : (u i : ℕ) → is_at taken' (slice_set tids p t) u i ≡ true → is_set taken i ≡ true → is_at taken tids u i ≡ true
      old u i h there =
          elim (at_cases u i h) [ inl x ↦ x | inr x ↦ absurd (both_ways _ is_free (subst (λ y. is_set taken y ≡ true) x.0 there)) ]

-- edges from some indices into one
module _ (taken : ℕ) (tids pairs reached : List ℕ) (g : IsBitGraph taken tids pairs reached) (from p : ℕ) (new after : List ℕ)
    (there : is_set taken p ≡ true) (sources : (i : ℕ) → is_set from i ≡ true → is_set taken i ≡ true)
    (apart : is_set from p ≡ false) (none_back : (i : ℕ) → is_set from i ≡ true → is_bit reached p i ≡ false)
    (new_is : (i j : ℕ) → (is_bit new i j ≡ true) ↔ ((is_bit pairs i j ≡ true) ⊎ ((is_set from i ≡ true) × (j ≡ p)))) where
  abbrev Before : ℕ → Type 0
  Before i = (is_set from i ≡ true) ⊎ ((k : ℕ) × (is_bit reached i k ≡ true) × (is_set from k ≡ true))

  abbrev After : ℕ → Type 0
  After j = (j ≡ p) ⊎ (is_bit reached p j ≡ true)

  module _ (after_is : (i j : ℕ) → (is_bit after i j ≡ true) ↔ ((is_bit reached i j ≡ true) ⊎ (Before i × After j))) where
    leads_old : (i j : ℕ) → Leads pairs i j → Leads new i j
    leads_old i j (k, step, (path, goes, ends)) =
        (k, (new_is i k).1 (inl step), (path, path_map (λ a b h. (new_is a b).1 (inl h)) k path goes, ends))

    to_index : (i : ℕ) → Before i → Leads new i p
    to_index i (inl h) = leads_step new i p ((new_is i p).1 (inr (h, refl)))
    to_index i (inr (k, first, h)) =
        leads_join new i k p (leads_old i k (g.closure.leads i k first)) (leads_step new k p ((new_is k p).1 (inr (h, refl))))

    from_index : (i j : ℕ) → Leads new i p → After j → Leads new i j
    from_index i j l (inl e) = subst (λ x. Leads new i x) (sym e) l
    from_index i j l (inr h) = leads_join new i p j l (leads_old p j (g.closure.leads p j h))

    back : (i j : ℕ) → is_bit reached i j ≡ true → Before j → Before i
    back i j r (inl h) = inr (j, r, h)
    back i j r (inr (k, s, h)) = inr (k, g.closure.joins i j k r s, h)

    on : (i j : ℕ) → After i → is_bit reached i j ≡ true → After j
    on i j (inl e) r = inr (subst (λ x. is_bit reached x j ≡ true) e r)
    on i j (inr h) r = inr (g.closure.joins p i j h r)

    no_return : (i : ℕ) → Before i → After i → ⊥
    no_return i (inl h) (inl e) = both_ways _ apart (subst (λ x. is_set from x ≡ true) e h)
    no_return i (inl h) (inr r) = both_ways _ (none_back i h) r
    no_return i (inr (k, s, h)) (inl e) = both_ways _ (none_back k h) (subst (λ x. is_bit reached x k ≡ true) e s)
    no_return i (inr (k, s, h)) (inr r) = both_ways _ (none_back k h) (g.closure.joins p i k r s)

    pub joined_graph : IsBitGraph taken tids new after
    joined_graph = record {
      size = g.size;
      apart = g.apart;
      low = g.low;
      of_taken =
          λ i j h. elim ((new_is i j).0 h) [
            | inl o ↦ g.of_taken i j o
            | inr n ↦
                (sources i n.0, subst (λ x. is_set taken x ≡ true) (sym n.1) there)
          ];
      closure = record {
        each =
            λ i j h. elim ((new_is i j).0 h) [
              | inl o ↦ (after_is i j).1 (inl (g.closure.each i j o))
              | inr n ↦
                  (after_is i j).1 (inr (inl n.0, inl n.1))
            ];
        joins = λ i j k a b. elim ((after_is i j).0 a) [
          | inl x ↦ elim ((after_is j k).0 b) [
            | inl y ↦ (after_is i k).1 (inl (g.closure.joins i j k x y))
            | inr y ↦ (after_is i k).1 (inr (back i j x y.0, y.1))
          ]
          | inr x ↦ elim ((after_is j k).0 b) [
            | inl y ↦ (after_is i k).1 (inr (x.0, on j k x.1 y))
            | inr y ↦ (after_is i k).1 (inr (x.0, y.1))
          ]
        ];
        leads =
            λ i j h. elim ((after_is i j).0 h) [
              | inl o ↦ leads_old i j (g.closure.leads i j o)
              | inr n ↦
                  from_index i j (to_index i n.0) n.1
            ];
      };
      acyclic = λ i. false_from_ne_true (is_bit after i i)
          (λ h. elim ((after_is i i).0 h) [ inl o ↦ both_ways _ (g.acyclic i) o | inr n ↦ no_return i n.0 n.1 ]);
    }

-- without an index
module _ (taken : ℕ) (tids pairs reached : List ℕ) (g : IsBitGraph taken tids pairs reached) (p taken' : ℕ) (new : List ℕ)
    (left : (i : ℕ) → is_set taken' i ≡ (is_set taken i && not (nat_eq i p)))
    (new_is : (i j : ℕ) → is_bit new i j ≡ (is_bit pairs i j && (not (nat_eq i p) && not (nat_eq j p)))) where
  other_is : (i : ℕ) → not (nat_eq i p) ≡ true → i ≢ p
  other_is i h e = both_ways _ (ap not (eq-eqb i p e)) h

  is_other : (i : ℕ) → i ≢ p → not (nat_eq i p) ≡ true
  is_other i other = ap not (false_from_ne_true (nat_eq i p) (λ h. other (eqb-true i p h)))

  old_pair : (i j : ℕ) → is_bit new i j ≡ true → (is_bit pairs i j ≡ true) × (i ≢ p) × (j ≢ p)
  old_pair i j h =
      let (old, rest) = and_parts (is_bit pairs i j) _ (sym (new_is i j) ∙ h) in
      let (a, b) = and_parts (not (nat_eq i p)) (not (nat_eq j p)) rest in
      (old, other_is i a, other_is j b)

  old_leads : (i j : ℕ) → Leads new i j → Leads pairs i j
  old_leads i j (k, step, (path, goes, ends)) = (k, (old_pair i k step).0, (path, path_map (λ a b h. (old_pair a b h).0) k path goes, ends))

  was_at : (u i : ℕ) → is_at taken' tids u i ≡ true → (is_at taken tids u i ≡ true) × (i ≢ p)
  was_at u i h =
      let parts = at_parts taken' tids u i h in
      let (old, other) = and_parts (is_set taken i) _ (sym (left i) ∙ parts.0) in
      (at_from taken tids u i old parts.1, other_is i other)

  still_at : (u i : ℕ) → is_at taken tids u i ≡ true → i ≢ p → is_at taken' tids u i ≡ true
  still_at u i h other =
      let parts = at_parts taken tids u i h in
      at_from taken' tids u i (left i ∙ and_from _ _ parts.0 (is_other i other)) parts.1

  pub freed : (after : List ℕ) → IsClosure new after → ((i j : ℕ) → Leads pairs i j → is_bit reached i j ≡ true)
      → IsBitGraph taken' tids new after
  freed after closure all = record {
    size = g.size;
    apart = λ i j u a b. g.apart i j u (was_at u i a).0 (was_at u j b).0;
    low = λ i h. g.low i (and_parts (is_set taken i) _ (sym (left i) ∙ h)).0;
    of_taken = λ i j h.
        let (old, a, b) = old_pair i j h in
        let both = g.of_taken i j old in
        (left i ∙ and_from _ _ both.0 (is_other i a), left j ∙ and_from _ _ both.1 (is_other j b));
    closure = closure;
    acyclic = λ i. false_from_ne_true (is_bit after i i) (λ h. both_ways _ (g.acyclic i) (all i i (old_leads i i (closure.leads i i h))));
  }

  -- where no edge leads to the index, what is reached from the others stays
  pub first_freed : (after : List ℕ) → ((i : ℕ) → is_bit pairs i p ≡ true → ⊥)
      → ((i j : ℕ) → is_bit after i j ≡ (is_bit reached i j && (not (nat_eq i p) && not (nat_eq j p)))) → IsClosure new after
  first_freed after none after_is = record {
    each = λ i j h. let (old, a, b) = old_pair i j h in after_is i j
        ∙ and_from _ _ (g.closure.each i j old) (and_from _ _ (is_other i a) (is_other j b));
    joins = λ i j k x y.
        let (first, a) = and_parts (is_bit reached i j) _ (sym (after_is i j) ∙ x) in
        let (second, b) = and_parts (is_bit reached j k) _ (sym (after_is j k) ∙ y) in
        after_is i k ∙ and_from _ _ (g.closure.joins i j k first second)
        (and_from _ _ (and_parts (not (nat_eq i p)) _ a).0 (and_parts (not (nat_eq j p)) (not (nat_eq k p)) b).1);
    leads = λ i j h.
        let (old, rest) = and_parts (is_bit reached i j) _ (sym (after_is i j) ∙ h) in
        around i j (other_is i (and_parts (not (nat_eq i p)) _ rest).0) (g.closure.leads i j old);
  }
    where
      step_around : (i j : ℕ) → i ≢ p → is_bit pairs i j ≡ true → is_bit new i j ≡ true
      step_around i j other h = new_is i j ∙ and_from _ _ h
          (and_from _ _ (is_other i other) (is_other j (λ e. none i (subst (λ x. is_bit pairs i x ≡ true) e h))))

      path_around : (i : ℕ) (path : List ℕ) → i ≢ p → PathOf (Holds (is_bit pairs)) i path → PathOf (Holds (is_bit new)) i path
      path_around i [] other goes = tt
      path_around i (j ∷ path) other goes =
          (step_around i j other goes.0, path_around j path (λ e. none i (subst (λ x. is_bit pairs i x ≡ true) e goes.0)) goes.1)

      around : (i j : ℕ) → i ≢ p → Leads pairs i j → Leads new i j
      around i j other (k, step, (path, goes, ends)) =
          (k, step_around i k other step, (path, path_around k path (λ e. none i (subst (λ x. is_bit pairs i x ≡ true) e step)) goes, ends))

  module _ (after : List ℕ) (h : IsBitGraph taken' tids new after) (t : ℕ) (here : is_at taken tids t p ≡ true) where
    not_it : (u i : ℕ) → is_at taken tids u i ≡ true → (i ≢ p) → not (nat_eq t u) ≡ true
    not_it u i a other =
        ap not (false_from_ne_true (nat_eq t u) (λ e. other
        (g.apart i p u a (subst (λ x. is_at taken tids x p ≡ true) (eqb-true t u e) here))))

    apart_from : (u i : ℕ) → is_at taken tids u i ≡ true → not (nat_eq t u) ≡ true → i ≢ p
    apart_from u i a other e =
        both_ways _ (ap not (eq-eqb t u (sym (at_parts taken tids t p here).1 ∙ ap (λ x. slice_index tids x) (sym e)
        ∙ (at_parts taken tids u i a).1))) other

    freed_nodes : (u : ℕ) → is_placed taken' tids u ≡ (is_placed taken tids u && not (nat_eq t u))
    freed_nodes u = same_test _ _
        (λ k. let (a, other) = was_at u (index_of taken' tids u) (placed_at taken' tids u k) in
        and_from _ _ (at_placed taken tids (placed taken tids pairs reached g) u _ a) (not_it u _ a other))
        (λ k. let (old, other) = and_parts (is_placed taken tids u) _ k in
        let a = placed_at taken tids u old in
        at_placed taken' tids (placed taken' tids new after h) u _ (still_at u _ a (apart_from u _ a other)))

    freed_pairs : (u v : ℕ) → is_pair taken' tids new u v ≡ (is_pair taken tids pairs u v && (not (nat_eq t u) && not (nat_eq t v)))
    freed_pairs u v = same_test _ _
        (λ k.
        let (i, j, a, b, step) = pair_at taken' tids (placed taken' tids new after h) new h.of_taken u v k in
        let (x, i_other) = was_at u i a in
        let (y, j_other) = was_at v j b in
        and_from _ _ (pair_from taken tids (placed taken tids pairs reached g) pairs u v i j x y ∙ (old_pair i j step).0)
        (and_from _ _ (not_it u i x i_other) (not_it v j y j_other)))
        (λ k.
        let (old, rest) = and_parts (is_pair taken tids pairs u v) _ k in
        let (first, second) = and_parts (not (nat_eq t u)) (not (nat_eq t v)) rest in
        let (i, j, a, b, step) = pair_at taken tids (placed taken tids pairs reached g) pairs g.of_taken u v old in
        let i_other : i ≢ p = apart_from u i a first in
        let j_other : j ≢ p = apart_from v j b second in
        pair_from taken' tids (placed taken' tids new after h) new u v i j (still_at u i a i_other) (still_at v j b j_other)
        ∙ new_is i j ∙ and_from _ _ step (and_from _ _ (is_other i i_other) (is_other j j_other)))

    -- the same where the transactions stand in an equal list
    pub removed_nodes : (tids' : List ℕ) → tids' ≡ tids → (u : ℕ) → is_placed taken' tids' u ≡ (is_placed taken tids u && not (nat_eq t u))
    removed_nodes tids' same u = ap (λ x. is_placed taken' x u) same ∙ freed_nodes u

    pub removed_pairs : (tids' : List ℕ) → tids' ≡ tids → (u v : ℕ)
        → is_pair taken' tids' new u v ≡ (is_pair taken tids pairs u v && (not (nat_eq t u) && not (nat_eq t v)))
    removed_pairs tids' same u v = ap (λ x. is_pair taken' x new u v) same ∙ freed_pairs u v

-- a path over indices goes through indices below 32
pub path_low : (taken : ℕ) (tids pairs reached : List ℕ) → IsBitGraph taken tids pairs reached → (p from : ℕ) (path : List ℕ) → p < 32
    → IsPath (is_bit pairs) p (indices from) path → (i : ℕ) → Member i path → i < 32
path_low taken tids pairs reached g p from path low (rest, is, w) i m = elim (subst (λ l. Member i l) is m) [
  | inl e ↦ subst (λ x. x < 32) (sym e) low
  | inr k ↦ go p rest w.goes k
]
  where
    go : (p : ℕ) (rest : List ℕ) → PathOf (Holds (is_bit pairs)) p rest → Member i rest → i < 32
    go p [] goes k = absurd k
    go p (q ∷ rest) goes (inl e) = subst (λ x. x < 32) (sym e) (g.low q (g.of_taken p q goes.0).1)
    go p (q ∷ rest) goes (inr k) = go q rest goes.1 k

-- what a verdict says of indices it says of transactions
module _ (taken : ℕ) (tids pairs reached : List ℕ) (g : IsBitGraph taken tids pairs reached) (t index targets : ℕ) (preds : List ℕ)
    (here : is_at taken tids t index ≡ true)
    (exact : (i : ℕ) → (is_set targets i ≡ true) ↔ ((is_set taken i ≡ true) × Member (slice_index tids i) preds)) where
  pub verdict_of : ((u : ℕ) → Member u preds → u ≢ t) → (verdict : Verdict) → IsIndexVerdict tids pairs reached index targets verdict
      → IsVerdict (is_pair taken tids pairs) t preds verdict
  verdict_of others Accepted v = accepted taken tids pairs reached g t index targets preds here exact others v
  verdict_of others (Closes cycle) (path, is, same) = closes taken tids pairs reached g t index targets preds here exact path cycle is same

  -- edges from the targets to the index are what an insertion adds
  pub inserts : ((u : ℕ) → Member u preds → is_placed taken tids u ≡ true) → (verdict : Verdict) → verdict ≡ Accepted
      → (taken' : ℕ) (tids' new reached' : List ℕ)
      → taken' ≡ taken → tids' ≡ tids → ((i j : ℕ) → is_bit new i j ≡ (is_bit pairs i j || (is_set targets i && nat_eq j index)))
      → IsBitGraph taken' tids' new reached'
      → Inserts (is_pair taken tids pairs) (is_pair taken' tids' new) t preds verdict
  inserts nodes verdict is taken' tids' new reached' same_taken same_tids more after =
      subst (λ x. Inserts (is_pair taken tids pairs) (is_pair taken' tids' new) t preds x) (sym is) (λ u v.
      subst (λ x. (is_pair x tids' new u v ≡ true) ↔ ((is_pair taken tids pairs u v ≡ true) ⊎ ((v ≡ t) × Member u preds))) (sym same_taken)
      (subst (λ x. (is_pair taken x new u v ≡ true) ↔ ((is_pair taken tids pairs u v ≡ true) ⊎ ((v ≡ t) × Member u preds))) (sym same_tids)
      (inserted taken tids pairs reached g t index targets preds here exact new more
      (subst (λ x. (i j : ℕ) → is_bit new i j ≡ true → (is_set x i ≡ true) × (is_set x j ≡ true)) same_taken after.of_taken) nodes u v)))

-- a transaction that is nowhere has no edges
pub none_in_index : (taken : ℕ) (tids pairs reached : List ℕ) → IsBitGraph taken tids pairs reached → (t : ℕ)
    → ((i : ℕ) → is_at taken tids t i ≡ false)
    → (u : ℕ) → is_pair taken tids pairs u t ≡ false
none_in_index taken tids pairs reached g t none u = false_from_ne_true (is_pair taken tids pairs u t) (λ h.
    let (i, j, a, b, step) = pair_at taken tids (placed taken tids pairs reached g) pairs g.of_taken u t h in
    both_ways _ (none j) b)

-- without it nothing changes
module _ (taken : ℕ) (tids pairs reached : List ℕ) (g : IsBitGraph taken tids pairs reached) (t : ℕ)
    (none : (i : ℕ) → is_at taken tids t i ≡ false) where
  other_than : (u i : ℕ) → is_at taken tids u i ≡ true → not (nat_eq t u) ≡ true
  other_than u i a =
      ap not (false_from_ne_true (nat_eq t u) (λ e. both_ways _ (none i)
      (subst (λ x. is_at taken tids x i ≡ true) (sym (eqb-true t u e)) a)))

  pub absent_nodes : (u : ℕ) → is_placed taken tids u ≡ (is_placed taken tids u && not (nat_eq t u))
  absent_nodes u = same_test _ _
      (λ h. and_from _ _ h (other_than u (index_of taken tids u) (placed_at taken tids u h)))
      (λ h. (and_parts (is_placed taken tids u) _ h).0)

  pub absent_pairs : (u v : ℕ) → is_pair taken tids pairs u v ≡ (is_pair taken tids pairs u v && (not (nat_eq t u) && not (nat_eq t v)))
  absent_pairs u v = same_test _ _
      (λ h.
      let (i, j, a, b, step) = pair_at taken tids (placed taken tids pairs reached g) pairs g.of_taken u v h in
      and_from _ _ h (and_from _ _ (other_than u i a) (other_than v j b)))
      (λ h. (and_parts (is_pair taken tids pairs u v) _ h).0)

-- the column of an index: the transactions with an edge to it
module _ (taken : ℕ) (tids pairs reached : List ℕ) (g : IsBitGraph taken tids pairs reached) (t index : ℕ)
    (here : is_at taken tids t index ≡ true) (column : ℕ) (column_is : (i : ℕ) → is_set column i ≡ is_bit pairs i index) where
  in_column : (i : ℕ) → (is_set column i ≡ true) ↔ (is_bit pairs i index ≡ true)
  in_column i = ((λ h. sym (column_is i) ∙ h), (λ step. column_is i ∙ step))

  -- a transaction with an edge to t is at an index of the column
  pub no_pred_of : ((i : ℕ) → is_set column i ≡ false) → (u : ℕ) → is_pair taken tids pairs u t ≡ false
  no_pred_of none u = false_from_ne_true (is_pair taken tids pairs u t) (λ h.
      let (i, j, a, b, step) = pair_at taken tids (placed taken tids pairs reached g) pairs g.of_taken u t h in
      both_ways _ (none i) ((in_column i).1 (subst (λ x. is_bit pairs i x ≡ true) (g.apart j index t b here) step)))

  least_of : (u : ℕ) → IsLeastAt tids column u → IsLeastPred (is_pair taken tids pairs) t u
  least_of u l =
      let step : is_bit pairs l.index index ≡ true = (in_column l.index).0 l.set_there in
      record {
        pair = pair_from taken tids (placed taken tids pairs reached g) pairs u t l.index index
            (at_from taken tids u l.index (g.of_taken l.index index step).0 l.there) here ∙ step;
        least = λ v h.
            let (i, j, a, b, link) = pair_at taken tids (placed taken tids pairs reached g) pairs g.of_taken v t h in
            let column_i : is_set column i ≡ true =
            (in_column i).1 (subst (λ x. is_bit pairs i x ≡ true) (g.apart j index t b here) link) in
            subst (λ x. u ≤ x) (at_parts taken tids v i a).1 (l.least i column_i);
      }

  pub least_pred_of : (result : Option ℕ) → IfSome result (IsLeastAt tids column) → IfSome result (IsLeastPred (is_pair taken tids pairs) t)
  least_pred_of None l = tt
  least_pred_of (Some u) l = least_of u l

-- the numbers below n
abbrev pub counted : ℕ → List ℕ
counted zero = []
counted (suc n) = n ∷ counted n

counted_below : (n t : ℕ) → Member t (counted n) → t < n
counted_below zero t m = absurd m
counted_below (suc n) t (inl e) = omega arith
counted_below (suc n) t (inr m) = let low : t < n = counted_below n t m in omega arith

counted_distinct : (n : ℕ) → Distinct (counted n)
counted_distinct zero = tt
counted_distinct (suc n) = ((λ m. let low : n < n = counted_below n n m in absurd (omega arith)), counted_distinct n)

-- where all indices are taken, there are 32 transactions
module _ (taken : ℕ) (tids pairs reached : List ℕ) (g : IsBitGraph taken tids pairs reached) where
  name_member : (i : ℕ) (rest : List ℕ) → is_set taken i ≡ true → ((x : ℕ) → Member x rest → is_set taken x ≡ true)
      → Member (slice_index tids i) (map (λ i. slice_index tids i) rest) → Member i rest
  name_member i [] there all m = m
  name_member i (j ∷ rest) there all (inl e) =
      inl (g.apart i j (slice_index tids j) (at_from taken tids _ i there e) (at_from taken tids _ j (all j (inl refl)) refl))
  name_member i (j ∷ rest) there all (inr m) = inr (name_member i rest there (λ x k. all x (inr k)) m)

  name_distinct : (rest : List ℕ) → ((x : ℕ) → Member x rest → is_set taken x ≡ true) → Distinct rest
      → Distinct (map (λ i. slice_index tids i) rest)
  name_distinct [] all d = tt
  name_distinct (j ∷ rest) all d =
      ((λ m. d.0 (name_member j rest (all j (inl refl)) (λ x k. all x (inr k)) m)), name_distinct rest (λ x k. all x (inr k)) d.1)

  names_placed : (rest : List ℕ) → ((x : ℕ) → Member x rest → is_set taken x ≡ true) → (u : ℕ)
      → Member u (map (λ i. slice_index tids i) rest) → is_placed taken tids u ≡ true
  names_placed [] all u m = absurd m
  names_placed (j ∷ rest) all u (inl e) =
      at_placed taken tids (placed taken tids pairs reached g) u j (at_from taken tids u j (all j (inl refl)) (sym e))
  names_placed (j ∷ rest) all u (inr m) = names_placed rest (λ x k. all x (inr k)) u m

  pub no_capacity : AtMost 31 (is_placed taken tids) → ((i : ℕ) → i < 32 → is_set taken i ≡ true) → ⊥
  no_capacity capacity all =
      let each : (x : ℕ) → Member x (counted 32) → is_set taken x ≡ true = λ x m. all x (counted_below 32 x m) in
      let fits : length (map (λ i. slice_index tids i) (counted 32)) ≤ length capacity.among =
      distinct_fits (map (λ i. slice_index tids i) (counted 32)) capacity.among (name_distinct (counted 32) each (counted_distinct 32))
      (λ u m. capacity.all u (names_placed (counted 32) each u m)) in
      let few : length capacity.among ≤ 31 = capacity.few in
      absurd (omega arith)
