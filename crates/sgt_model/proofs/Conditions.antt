-- The conditions of the layers' calls, from what holds of the state at every moment.
use Rattle.std.proofs.Common.{◌≡◌, ◌≢◌, ℕ, suc, ◌<◌, ◌≤◌, ℤ, true, false, List, [], ◌∷◌, nat_eq, refl, sym, ap, subst, inl, inr, ◌∙◌, arith, Option}
use Rattle.std.specs.Prelude.{length}
use Rattle.std.proofs.lemmas.Bool.{or_cases, eqb-true, eq-eqb, both_ways, or_left, or_right}
use Rattle.sgt_model.specs.declared.kind.Kind.TheVariants.{Store}
use Rattle.sgt_model.specs.Contents.{Key}
use Rattle.sgt_model.specs.Paths.{Member, Distinct}
use Rattle.sgt_model.specs.Chains.{writes_in}
use Rattle.sgt_model.specs.ChainOrder.{EachAfter, InOrder, IsFirstIn, IsLastIn}
use Rattle.sgt_model.specs.State.{State, PairIn}
use Rattle.sgt_model.specs.Blocks.{Blocks}
use Rattle.sgt_model.specs.Soundness.{Sound}
use Rattle.sgt_model.proofs.Paths.{Within}
use Rattle.sgt_model.proofs.ChainOrder.{is_first, is_last}

module _ (most : ℕ) (c : State) (sound : Sound most c) where
  -- of `write`: after an accepted verdict t's value, if there, is the last of its chain
  pub may_write : (t : ℕ) (k : Key) → c.nodes t ≡ true → ((rest : List ℕ) → Blocks c t k Store rest → ⊥) → IsLastIn t (c.chain k)
  may_write t k node free = is_last (PairIn c) t (c.chain k) (sound.order k)
      (λ u n m p. free (u ∷ []) (record {
        distinct = ((λ q. elim q [ inl e ↦ n (sym e) | inr z ↦ z ]), ((λ z. z), tt));
        pairs = (p, tt);
        rival = record { apart = n; has_conflicting = sound.writers k u m };
      }))

  -- of `settle`: with no live predecessor each value of t is the first of its chain
  pub may_settle : (t : ℕ) → ((u : ℕ) → c.pairs u t ≡ true → ⊥) → (k : Key) → IsFirstIn t (c.chain k)
  may_settle t none k = is_first (PairIn c) t (c.chain k) (sound.order k) (λ u n m p. none u p)

  -- of `add`: the next number is no node
  pub next_no_node : c.nodes c.start_count ≡ true → ⊥
  next_no_node h = absurd (let lt = sound.begun c.start_count h in omega arith)

-- a number of a list is left out
removed : (x : ℕ) (ys : List ℕ) → Member x ys → (zs : List ℕ) × (length ys ≡ suc (length zs)) × ((y : ℕ) → Member y ys → y ≢ x
    → Member y zs)
removed x [] m = absurd m
removed x (y ∷ ys) (inl e) = (ys, refl, λ z m other. elim m [ inl same ↦ absurd (other (same ∙ sym e)) | inr k ↦ k ])
removed x (y ∷ ys) (inr m) = let (zs, long, keep) = removed x ys m in
    (y ∷ zs, ap suc long, λ z k other. elim k [ inl same ↦ inl same | inr j ↦ inr (keep z j other) ])

-- different numbers that are all among some others are no more than those
pub distinct_fits : (xs ys : List ℕ) → Distinct xs → Within xs ys → length xs ≤ length ys
distinct_fits [] ys d w = omega arith
distinct_fits (x ∷ xs) ys d w =
    let (zs, long, keep) = removed x ys (w x (inl refl)) in
    let rest : length xs ≤ length zs =
    distinct_fits xs zs d.1 (λ y m. keep y (w y (inr m)) (λ same. d.0 (subst (λ z. Member z xs) same m))) in
    omega arith

-- a chain in order, of an order that relates none to itself, is no longer than a list that has all its writers
chain_fits : (R : ℕ → ℕ → Type 0) → ((a b : ℕ) → R a b → a ≢ b) → (c : List (ℕ × Option ℤ)) (ys : List ℕ) → InOrder R c
    → ((t : ℕ) → writes_in t c ≡ true → Member t ys) → length c ≤ length ys
chain_fits R apart [] ys h w = omega arith
chain_fits R apart (x ∷ c) ys h w =
    let (zs, long, keep) = removed x.0 ys (w x.0 (or_left (nat_eq x.0 x.0) (writes_in x.0 c) (eq-eqb x.0 x.0 refl))) in
    let rest : length c ≤ length zs = chain_fits R apart c zs h.1 (λ t m. keep t (w t (or_right (nat_eq x.0 t) (writes_in t c) m))
    (after c h.0 t m)) in
    omega arith
  where
    after : (d : List (ℕ × Option ℤ)) → EachAfter R x.0 d → (t : ℕ) → writes_in t d ≡ true → t ≢ x.0
    after [] h t m = absurd (cc)
    after (y ∷ d) h t m =
        elim (or_cases (nat_eq y.0 t) (writes_in t d) m) [
          | inl now ↦ (λ z. apart x.0 y.0 h.0 (sym (eqb-true y.0 t now ∙ z)))
          | inr later ↦ after d h.1 t later
        ]

module _ (most : ℕ) (c : State) (sound : Sound most c) where
  -- of `write`: a chain without t's value has capacity
  pub chain_capacity : (t : ℕ) (k : Key) → c.nodes t ≡ true → writes_in t (c.chain k) ≡ false → length (c.chain k) < most
  chain_capacity t k node out =
      let (zs, long, keep) = removed t c.live ((sound.listed t).0 node) in
      let fits : length (c.chain k) ≤ length zs = chain_fits (PairIn c) (λ a b p. sound.pair_apart a b p) (c.chain k) zs
      (sound.order k) (λ u m. keep u ((sound.listed u).0 (sound.access_nodes u k Store (sound.writers k u m)))
      (λ z. both_ways (writes_in u (c.chain k)) (ap (λ v. writes_in v (c.chain k)) z ∙ out) m)) in
      let few = sound.few in
      omega arith
