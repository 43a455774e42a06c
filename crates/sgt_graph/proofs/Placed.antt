-- Transactions at indices: what holds of rows of indices holds of the transactions.
use Rattle.std.specs.Prelude.{◌≡◌, ◌≢◌, ℕ, ◌<◌, ◌≤◌, ◌⊎◌, ◌↔◌, Bool, true, false, ◌&&◌, ◌||◌, nat_eq, List, [], ◌∷◌, map, slice_index, cond}
use Rattle.std.proofs.Common.{zero, suc, refl, sym, ◌∙◌, ap, subst, inl, inr, arith}
use Rattle.std.proofs.lemmas.Bool.{eqb-true, eq-eqb, ltb-true, lt-ltb, and_parts, and_from, or_cases, or_left, or_right, both_ways, cases_eq}
use Rattle.sgt_model.specs.Paths.{PathOf, last_of, Member, Distinct}
use Rattle.sgt_cycle.specs.Indices.{is_set, is_bit, indices_below, indices}
use Rattle.sgt_cycle.specs.Path.{Holds, IsPath, NoPath}
use Rattle.sgt_graph.specs.Graphs.{NoCycle, OfNodes}
use Rattle.sgt_graph.specs.Closures.{Leads}
use Rattle.sgt_graph.specs.BitGraphs.{is_at, last_below, index_of, is_placed, is_pair, IsBitGraph}

-- two tests that hold together are the same
pub same_test : (a b : Bool) → (a ≡ true → b ≡ true) → (b ≡ true → a ≡ true) → a ≡ b
same_test true b to from = sym (to refl)
same_test false true to from = from refl
same_test false false to from = refl

-- the members of the indices of a set
pub index_member : (n set t : ℕ) → Member t (indices_below n set) → (t < n) × (is_set set t ≡ true)
unfolding indices_below
index_member zero set t m = absurd m
index_member (suc n) set t m = go (index_member n set t) (is_set set n) refl m
  where
    go : (Member t (indices_below n set) → (t < n) × (is_set set t ≡ true)) → (b : Bool) → is_set set n ≡ b
        → Member t (cond b (n ∷ indices_below n set) (indices_below n set)) → (t < suc n) × (is_set set t ≡ true)
    go old true e (inl same) = (omega arith, subst (λ x. is_set set x ≡ true) (sym same) e)
    go old true e (inr k) = let h = old k in let low : t < n = h.0 in (omega arith, h.1)
    go old false e k = let h = old k in let low : t < n = h.0 in (omega arith, h.1)

pub member_index : (n set t : ℕ) → t < n → is_set set t ≡ true → Member t (indices_below n set)
unfolding indices_below
member_index zero set t low set_there = absurd (omega arith)
member_index (suc n) set t low set_there = go (member_index n set t) (is_set set n) refl
  where
    go : (t < n → is_set set t ≡ true → Member t (indices_below n set)) → (b : Bool) → is_set set n ≡ b
        → Member t (cond b (n ∷ indices_below n set) (indices_below n set))
    go old true e = elim (cases_eq t n) [ inl same ↦ inl same | inr other ↦ inr (old (omega arith) set_there) ]
    go old false e =
        elim (cases_eq t n) [
          | inl same ↦ absurd (both_ways _ e (subst (λ x. is_set set x ≡ true) same set_there))
          | inr other ↦
              old (omega arith) set_there
        ]

-- the last index that passes
module _ (test : ℕ → Bool) where
  last_passes : (n : ℕ) → n ≤ 32 → last_below n test < 32 → test (last_below n test) ≡ true
  unfolding last_below
  last_passes zero few low = absurd (omega arith)
  last_passes (suc n) few low = go (test n) refl (last_passes n (omega arith)) low
    where
      go : (b : Bool) → test n ≡ b → (last_below n test < 32 → test (last_below n test) ≡ true) → cond b n (last_below n test) < 32
          → test (cond b n (last_below n test)) ≡ true
      go true e old h = e
      go false e old h = old h

  last_is : (n i : ℕ) → i < n → test i ≡ true → ((j : ℕ) → test j ≡ true → j ≡ i) → last_below n test ≡ i
  unfolding last_below
  last_is zero i low here only = absurd (omega arith)
  last_is (suc n) i low here only = go (test n) refl (λ below. last_is n i below here only)
    where
      go : (b : Bool) → test n ≡ b → (i < n → last_below n test ≡ i) → cond b n (last_below n test) ≡ i
      go true e old = only n e
      go false e old =
          elim (cases_eq i n) [ inl same ↦ absurd (both_ways _ e (subst (λ x. test x ≡ true) same here)) | inr other ↦ old (omega arith) ]

-- what has to be known of the indices
pub record Placed (taken : ℕ) (tids : List ℕ) : Type 0 where
  pub apart : (i j t : ℕ) → is_at taken tids t i ≡ true → is_at taken tids t j ≡ true → i ≡ j
  pub low : (i : ℕ) → is_set taken i ≡ true → i < 32

module _ (taken : ℕ) (tids : List ℕ) where
  pub at_from : (t i : ℕ) → is_set taken i ≡ true → slice_index tids i ≡ t → is_at taken tids t i ≡ true
  at_from t i there is = and_from _ _ there (eq-eqb (slice_index tids i) t is)

  pub at_parts : (t i : ℕ) → is_at taken tids t i ≡ true → (is_set taken i ≡ true) × (slice_index tids i ≡ t)
  at_parts t i h = let both = and_parts (is_set taken i) _ h in (both.0, eqb-true (slice_index tids i) t both.1)

  pub placed_at : (t : ℕ) → is_placed taken tids t ≡ true → is_at taken tids t (index_of taken tids t) ≡ true
  placed_at t h = last_passes (is_at taken tids t) 32 (omega arith) (ltb-true (index_of taken tids t) 32 h)

  module _ (p : Placed taken tids) where
    pub index_is : (t i : ℕ) → is_at taken tids t i ≡ true → index_of taken tids t ≡ i
    index_is t i h = last_is (is_at taken tids t) 32 i (p.low i (at_parts t i h).0) h (λ j k. p.apart j i t k h)

    pub at_placed : (t i : ℕ) → is_at taken tids t i ≡ true → is_placed taken tids t ≡ true
    at_placed t i h = lt-ltb (index_of taken tids t) 32 (subst (λ x. x < 32) (sym (index_is t i h)) (p.low i (at_parts t i h).0))

    pub pair_from : (pairs : List ℕ) (u v i j : ℕ) → is_at taken tids u i ≡ true → is_at taken tids v j ≡ true
        → is_pair taken tids pairs u v ≡ is_bit pairs i j
    pair_from pairs u v i j a b = ap (λ x. is_bit pairs x (index_of taken tids v)) (index_is u i a)
        ∙ ap (λ x. is_bit pairs i x) (index_is v j b)

    -- an edge is of two indices that are taken
    pub pair_at : (pairs : List ℕ) → ((i j : ℕ) → is_bit pairs i j ≡ true → (is_set taken i ≡ true) × (is_set taken j ≡ true))
        → (u v : ℕ) → is_pair taken tids pairs u v ≡ true → (i j : ℕ) × (is_at taken tids u i ≡ true) × (is_at taken tids v j ≡ true)
        × (is_bit pairs i j ≡ true)
    pair_at pairs of_taken u v h =
        let both = of_taken (index_of taken tids u) (index_of taken tids v) h in (
          index_of taken tids u,
          index_of taken tids v,
          last_passes (is_at taken tids u) 32 (omega arith) (p.low _ both.0),
          last_passes (is_at taken tids v) 32 (omega arith) (p.low _ both.1),
          h,
        )

-- the edges of a graph of indices
module _ (taken : ℕ) (tids pairs reached : List ℕ) (g : IsBitGraph taken tids pairs reached) where
  pub placed : Placed taken tids
  placed = record { apart = g.apart; low = g.low }

  -- what is reached by steps is in the rows reached
  all_reached : (i k : ℕ) (path : List ℕ) → is_bit pairs i k ≡ true → PathOf (Holds (is_bit pairs)) k path
      → is_bit reached i (last_of k path) ≡ true
  all_reached i k [] step p = g.closure.each i k step
  all_reached i k (u ∷ path) step p = g.closure.joins i k (last_of u path) (g.closure.each i k step) (all_reached k u path p.0 p.1)

  pub leads_reached : (i j : ℕ) → Leads pairs i j → is_bit reached i j ≡ true
  leads_reached i j (k, step, (path, goes, ends)) = subst (λ x. is_bit reached i x ≡ true) ends (all_reached i k path step goes)

  -- so does what a path along the edges of transactions comes to
  pub path_reached : (u v : ℕ) (rest : List ℕ) (i : ℕ) → is_at taken tids u i ≡ true
      → PathOf (Holds (is_pair taken tids pairs)) u (v ∷ rest)
      → (j : ℕ) × (is_at taken tids (last_of v rest) j ≡ true) × (is_bit reached i j ≡ true)
  path_reached u v [] i here p =
      let (a, b, at_u, at_v, step) = pair_at taken tids placed pairs g.of_taken u v p.0 in
      (b, at_v, subst (λ x. is_bit reached x b ≡ true) (g.apart a i u at_u here) (g.closure.each a b step))
  path_reached u v (w ∷ rest) i here p =
      let (a, b, at_u, at_v, step) = pair_at taken tids placed pairs g.of_taken u v p.0 in
      let first : is_bit reached i b ≡ true = subst (λ x. is_bit reached x b ≡ true) (g.apart a i u at_u here) (g.closure.each a b step) in
      let (j, at_last, more) = path_reached v w rest b at_v p.1 in
      (j, at_last, g.closure.joins i b j first more)

  pub bit_of_nodes : OfNodes (is_placed taken tids) (is_pair taken tids pairs)
  bit_of_nodes u v h =
      let (i, j, at_u, at_v, step) = pair_at taken tids placed pairs g.of_taken u v h in
      (at_placed taken tids placed u i at_u, at_placed taken tids placed v j at_v)

  pub bit_acyclic : NoCycle (is_pair taken tids pairs)
  bit_acyclic t [] some p e = absurd (omega arith)
  bit_acyclic t (u ∷ rest) some p e =
      let (i, j, at_t, at_u, step) = pair_at taken tids placed pairs g.of_taken t u p.0 in
      let (k, at_last, back) = path_reached t u rest i at_t p in
      both_ways _ (g.acyclic i) (subst (λ x. is_bit reached i x ≡ true)
      (g.apart k i t (subst (λ x. is_at taken tids x k ≡ true) e at_last) at_t) back)

  module _ (t index targets : ℕ) (preds : List ℕ) (here : is_at taken tids t index ≡ true)
      (exact : (i : ℕ) → (is_set targets i ≡ true) ↔ ((is_set taken i ≡ true) × Member (slice_index tids i) preds)) where
    -- nothing that is reached is a target, so no path leads to one
    pub accepted : ((u : ℕ) → Member u preds → u ≢ t) → ((j : ℕ) → is_set targets j ≡ true → is_bit reached index j ≡ false)
        → NoPath (is_pair taken tids pairs) t preds
    accepted others free [] w = others t w.ends refl
    accepted others free (u ∷ rest) w =
        let (j, at_last, back) = path_reached t u rest index here w.goes in
        let parts = at_parts taken tids (last_of u rest) j at_last in
        both_ways _ (free j ((exact j).1 (parts.0, subst (λ x. Member x preds) (sym parts.1) w.ends))) back

    -- a path over indices is one of transactions
    steps_taken : (i : ℕ) (rest : List ℕ) → PathOf (Holds (is_bit pairs)) i rest → (x : ℕ) → Member x rest → is_set taken x ≡ true
    steps_taken i [] p x m = absurd m
    steps_taken i (j ∷ rest) p x (inl e) = subst (λ y. is_set taken y ≡ true) (sym e) (g.of_taken i j p.0).1
    steps_taken i (j ∷ rest) p x (inr m) = steps_taken j rest p.1 x m

    named_goes : (i : ℕ) (rest : List ℕ) → is_set taken i ≡ true → PathOf (Holds (is_bit pairs)) i rest
        → PathOf (Holds (is_pair taken tids pairs)) (slice_index tids i) (map (λ i. slice_index tids i) rest)
    named_goes i [] there p = tt
    named_goes i (j ∷ rest) there p =
        let next : is_set taken j ≡ true = (g.of_taken i j p.0).1 in (
          pair_from taken tids placed pairs (slice_index tids i) (slice_index tids j) i j (at_from taken tids _ i there refl)
              (at_from taken tids _ j next refl) ∙ p.0,
          named_goes j rest next p.1,
        )

    named_last : (i : ℕ) (rest : List ℕ) → last_of (slice_index tids i) (map (λ i. slice_index tids i) rest) ≡ slice_index tids
        (last_of i rest)
    named_last i [] = refl
    named_last i (j ∷ rest) = named_last j rest

    named_member : (i : ℕ) (rest : List ℕ) → is_set taken i ≡ true → ((x : ℕ) → Member x rest → is_set taken x ≡ true)
        → Member (slice_index tids i) (map (λ i. slice_index tids i) rest) → Member i rest
    named_member i [] there all m = m
    named_member i (j ∷ rest) there all (inl e) =
        inl (g.apart i j (slice_index tids j) (at_from taken tids _ i there e) (at_from taken tids _ j (all j (inl refl)) refl))
    named_member i (j ∷ rest) there all (inr m) = inr (named_member i rest there (λ x k. all x (inr k)) m)

    named_distinct : (rest : List ℕ) → ((x : ℕ) → Member x rest → is_set taken x ≡ true) → Distinct rest
        → Distinct (map (λ i. slice_index tids i) rest)
    named_distinct [] all d = tt
    named_distinct (j ∷ rest) all d =
        ((λ m. d.0 (named_member j rest (all j (inl refl)) (λ x k. all x (inr k)) m)), named_distinct rest (λ x k. all x (inr k)) d.1)

    pub closes : (path cycle : List ℕ) → IsPath (is_bit pairs) index (indices targets) path → cycle ≡ map (λ i. slice_index tids i) path
        → IsPath (is_pair taken tids pairs) t preds cycle
    closes path cycle (rest, is, w) same =
        let parts = at_parts taken tids t index here in
        let all : (x : ℕ) → Member x (index ∷ rest) → is_set taken x ≡ true = λ x m. elim m [
          | inl e ↦ subst (λ y. is_set taken y ≡ true) (sym e) parts.0
          | inr k ↦ steps_taken index rest w.goes x k
        ] in
        let last = index_member 32 targets (last_of index rest) w.ends in (
          map (λ i. slice_index tids i) rest,
          same ∙ ap (map (λ i. slice_index tids i)) is ∙ ap (λ x. x ∷ map (λ i. slice_index tids i) rest) parts.1,
          record {
            distinct =
                subst (λ x. Distinct (x ∷ map (λ i. slice_index tids i) rest)) parts.1 (named_distinct (index ∷ rest) all w.distinct);
            goes = subst (λ x. PathOf (Holds (is_pair taken tids pairs)) x (map (λ i. slice_index tids i) rest)) parts.1
                (named_goes index rest parts.0 w.goes);
            ends = subst (λ x. Member (last_of x (map (λ i. slice_index tids i) rest)) preds) parts.1
                (subst (λ x. Member x preds) (sym (named_last index rest)) ((exact (last_of index rest)).0 last.1).1);
          },
        )

    -- edges from the targets to the index are edges from the preds to the transaction
    pub inserted : (new : List ℕ) → ((i j : ℕ) → is_bit new i j ≡ (is_bit pairs i j || (is_set targets i && nat_eq j index)))
        → ((i j : ℕ) → is_bit new i j ≡ true → (is_set taken i ≡ true) × (is_set taken j ≡ true))
        → ((u : ℕ) → Member u preds → is_placed taken tids u ≡ true)
        → (u v : ℕ) → (is_pair taken tids new u v ≡ true) ↔ ((is_pair taken tids pairs u v ≡ true) ⊎ ((v ≡ t) × Member u preds))
    inserted new more of_taken nodes u v = (
      (λ h.
          let (i, j, at_u, at_v, step) = pair_at taken tids placed new of_taken u v h in
          elim (or_cases (is_bit pairs i j) _ (sym (more i j) ∙ step)) [
            | inl old ↦ inl (pair_from taken tids placed pairs u v i j at_u at_v ∙ old)
            | inr n ↦
                let both = and_parts (is_set targets i) _ n in
                let at_j : j ≡ index = eqb-true j index both.1 in
                let v_is = (at_parts taken tids v j at_v).1 in
                inr (
                  sym v_is ∙ ap (λ x. slice_index tids x) at_j ∙ (at_parts taken tids t index here).1,
                  subst (λ x. Member x preds)
                      (at_parts taken tids u i at_u).1 ((exact i).0 both.0).1,
                )
          ]),
      (λ h. elim h [
        | inl old ↦
            let (i, j, at_u, at_v, step) = pair_at taken tids placed pairs g.of_taken u v old in
            pair_from taken tids placed new u v i j at_u at_v ∙ more i j ∙ or_left (is_bit pairs i j) _ step
        | inr n ↦
            let at_u = placed_at taken tids u (nodes u n.1) in
            let at_v : is_at taken tids v index ≡ true = subst (λ x. is_at taken tids x index ≡ true) (sym n.0) here in
            let parts = at_parts taken tids u (index_of taken tids u) at_u in
            pair_from taken tids placed new u v (index_of taken tids u) index at_u at_v ∙ more (index_of taken tids u) index
            ∙ or_right (is_bit pairs (index_of taken tids u) index) _
            (and_from _ _ ((exact (index_of taken tids u)).1 (parts.0, subst (λ x. Member x preds) (sym parts.1) n.1))
            (eq-eqb index index refl))
      ]),
    )
