-- The indices of the transactions of a list, found one after another.
use Rattle.std.specs.Prelude.{◌≡◌, ℕ, ◌<◌, ◌+◌, true, false, ◌||◌, ◌↔◌, nat_eq, List, [], ◌∷◌, ◌++◌, length, slice_index, slice_index_or}
use Rattle.std.proofs.Common.{take, sym, ◌∙◌, ap, subst, inl, inr, add-one}
use Rattle.std.proofs.Math.Seq.{take-suc}
use Rattle.std.proofs.lemmas.Bool.{eqb-true, eq-eqb, and_from, and_parts, or_left, or_right, or_cases, both_ways}
use Rattle.sgt_model.specs.Paths.{Member}
use Rattle.sgt_model.proofs.Capacity.{member_append}
use Rattle.sgt_model.proofs.Listed.{member_added}
use Rattle.sgt_cycle.specs.Indices.{is_set}
use Rattle.sgt_graph.specs.BitGraphs.{is_at}
use Rattle.sgt_graph.proofs.RowSteps.{none_in}

module _ (taken : ℕ) (tids : List ℕ) where
  -- a set is that of the indices of these
  abbrev pub AreIndices : List ℕ → ℕ → Type 0
  AreIndices among found = (i : ℕ) → (is_set found i ≡ true) ↔ ((is_set taken i ≡ true) × Member (slice_index tids i) among)

  pub indices_none : AreIndices [] 0
  indices_none i = ((λ h. absurd (both_ways _ (none_in i) h)), (λ h. absurd h.1))

  module _ (among : List ℕ) (k t found : ℕ) (below : k < length among) (is : t ≡ slice_index_or among k t)
      (before : AreIndices (take k among) found) where
    next : take (k + 1) among ≡ take k among ++ t ∷ []
    next = rw (add-one k) (take-suc among k t below ∙ ap (λ x. take k among ++ x ∷ []) (sym is))

    -- one more, which has an index; no transaction has two
    pub indices_more : (index found' : ℕ) → ((i j u : ℕ) → is_at taken tids u i ≡ true → is_at taken tids u j ≡ true → i ≡ j)
        → is_at taken tids t index ≡ true → ((i : ℕ) → is_set found' i ≡ (is_set found i || nat_eq i index))
        → AreIndices (take (k + 1) among) found'
    indices_more index found' apart here more i = (to, from)
      where
        at : (is_set taken index ≡ true) × (nat_eq (slice_index tids index) t ≡ true)
        at = and_parts (is_set taken index) _ here

        to : is_set found' i ≡ true → (is_set taken i ≡ true) × Member (slice_index tids i) (take (k + 1) among)
        to h = elim (or_cases (is_set found i) _ (sym (more i) ∙ h)) [
          | inl old ↦ let m = (before i).0 old in (m.0, rw next (member_added _ (take k among) t (inl m.1)))
          | inr same ↦
              let e : i ≡ index = eqb-true i index same in (
                subst (λ x. is_set taken x ≡ true) (sym e) at.0,
                rw next (member_added _ (take k among) t (inr (ap (slice_index tids) e ∙ eqb-true _ t at.1))),
              )
        ]

        from : (is_set taken i ≡ true) × Member (slice_index tids i) (take (k + 1) among) → is_set found' i ≡ true
        from m = elim (member_append _ (take k among) t (subst (λ l. Member (slice_index tids i) l) next m.1)) [
          | inl early ↦ more i ∙ or_left (is_set found i) _ ((before i).1 (m.0, early))
          | inr e ↦ more i ∙ or_right (is_set found i) _
              (eq-eqb i index (apart i index t (and_from (is_set taken i) _ m.0 (eq-eqb _ t e)) here))
        ]

    -- one more, which has none
    pub indices_skip : ((i : ℕ) → is_at taken tids t i ≡ false) → AreIndices (take (k + 1) among) found
    indices_skip none i = (
      (λ h. let m = (before i).0 h in (m.0, rw next (member_added _ (take k among) t (inl m.1)))),
      (λ m. elim (member_append _ (take k among) t (subst (λ l. Member (slice_index tids i) l) next m.1)) [
        | inl early ↦ (before i).1 (m.0, early)
        | inr e ↦ absurd (both_ways _ (none i) (and_from (is_set taken i) _ m.0 (eq-eqb _ t e)))
      ]),
    )
