-- Whether a relation leads from one number to another, as a test: by way of some listed numbers, one after another.
use Rattle.std.specs.Prelude.{◌≡◌, ℕ, Bool, true, ◌&&◌, ◌||◌, nat_eq, List, [], ◌∷◌}
use Rattle.std.proofs.Common.{refl, subst, inl, inr}
use Rattle.std.proofs.lemmas.Bool.{and_parts, and_from, or_cases, or_left, or_right, eq-eqb, eqb-true}
use Rattle.sgt_model.specs.Paths.{PathOf, last_of, Member, Reaches}
use Rattle.sgt_model.proofs.Paths.{reaches_self, reaches_trans}

-- a leads to b in one step at most, or by way of the nodes
abbrev pub leads : (ℕ → ℕ → Bool) → List ℕ → ℕ → ℕ → Bool
leads test [] a b = nat_eq a b || test a b
leads test (n ∷ nodes) a b = leads test nodes a b || (leads test nodes a n && leads test nodes n b)

module _ (test : ℕ → ℕ → Bool) where
  -- to the first of the nodes, and from it, the others are way enough
  leads_to : (n : ℕ) (nodes : List ℕ) (a : ℕ) → leads test (n ∷ nodes) a n ≡ true → leads test nodes a n ≡ true
  leads_to n nodes a h = elim (or_cases _ _ h) [ inl past ↦ past | inr through ↦ (and_parts _ _ through).0 ]

  leads_from : (n : ℕ) (nodes : List ℕ) (b : ℕ) → leads test (n ∷ nodes) n b ≡ true → leads test nodes n b ≡ true
  leads_from n nodes b h = elim (or_cases _ _ h) [ inl past ↦ past | inr through ↦ (and_parts _ _ through).1 ]

  -- what leads to one of the nodes leads to where that leads
  leads_trans : (nodes : List ℕ) (a n b : ℕ) → Member n nodes → leads test nodes a n ≡ true → leads test nodes n b ≡ true
      → leads test nodes a b ≡ true
  leads_trans [] a n b m to from = absurd m
  leads_trans (k ∷ nodes) a n b (inl e) to from =
      let first : leads test nodes a k ≡ true = leads_to k nodes a (subst (λ x. leads test (k ∷ nodes) a x ≡ true) e to) in
      let second : leads test nodes k b ≡ true = leads_from k nodes b (subst (λ x. leads test (k ∷ nodes) x b ≡ true) e from) in
      or_right _ _ (and_from _ _ first second)
  leads_trans (k ∷ nodes) a n b (inr m) to from = elim (or_cases _ _ to) [
    | inl an ↦ elim (or_cases _ _ from) [
      | inl nb ↦ or_left _ _ (leads_trans nodes a n b m an nb)
      | inr through ↦ let p = and_parts _ _ through in or_right _ _ (and_from _ _ (leads_trans nodes a n k m an p.0) p.1)
    ]
    | inr through ↦ let q = and_parts _ _ through in elim (or_cases _ _ from) [
      | inl nb ↦ or_right _ _ (and_from _ _ q.0 (leads_trans nodes k n b m q.1 nb))
      | inr again ↦ or_right _ _ (and_from _ _ q.0 (and_parts _ _ again).1)
    ]
  ]

  -- a step needs no way
  leads_step : (nodes : List ℕ) (a b : ℕ) → (nat_eq a b || test a b) ≡ true → leads test nodes a b ≡ true
  leads_step [] a b h = h
  leads_step (n ∷ nodes) a b h = or_left _ _ (leads_step nodes a b h)

  module _ (step : ℕ → ℕ → Type 0) where
    -- where the test is of the relation, what leads somewhere reaches it
    pub leads-reaches : ((a b : ℕ) → test a b ≡ true → step a b) → (nodes : List ℕ) (a b : ℕ) → leads test nodes a b ≡ true
        → Reaches step a b
    leads-reaches so [] a b h = elim (or_cases _ _ h) [
      | inl same ↦ subst (λ x. Reaches step a x) (eqb-true a b same)
          (reaches_self step a)
      | inr one ↦ (b ∷ [], (so a b one, tt), refl)
    ]
    leads-reaches so (n ∷ nodes) a b h = elim (or_cases _ _ h) [
      | inl past ↦ leads-reaches so nodes a b past
      | inr through ↦ let p = and_parts _ _ through in reaches_trans step a n b (leads-reaches so nodes a n p.0)
          (leads-reaches so nodes n b p.1)
    ]

    -- and where each step comes to one of the nodes, the other way round
    path_leads : ((a b : ℕ) → step a b → test a b ≡ true) → (nodes : List ℕ) → ((a b : ℕ) → step a b → Member b nodes)
        → (a : ℕ) (path : List ℕ) → PathOf step a path → leads test nodes a (last_of a path) ≡ true
    path_leads to nodes within a [] p = leads_step nodes a a (or_left _ _ (eq-eqb a a refl))
    path_leads to nodes within a (u ∷ path) p = leads_trans nodes a u (last_of u path) (within a u p.0)
        (leads_step nodes a u (or_right _ _ (to a u p.0))) (path_leads to nodes within u path p.1)

    pub reaches-leads : ((a b : ℕ) → step a b → test a b ≡ true) → (nodes : List ℕ) → ((a b : ℕ) → step a b → Member b nodes)
        → (a b : ℕ) → Reaches step a b → leads test nodes a b ≡ true
    reaches-leads to nodes within a b (path, p, e) = subst (λ x. leads test nodes a x ≡ true) e (path_leads to nodes within a path p)
