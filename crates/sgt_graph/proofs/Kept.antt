-- The two lists stay a graph: with a new node, with a new edge, without a node.
use Rattle.std.specs.Prelude.{◌≡◌, ℕ, ◌<◌, ◌≤◌, Bool, true, false, not, cond, ◌⊎◌, nat_eq, List, [], ◌∷◌, ◌++◌, length}
use Rattle.std.specs.List.{filter}
use Rattle.std.proofs.Common.{refl, sym, ◌∙◌, subst, inl, inr, arith, length-append}
use Rattle.std.proofs.lemmas.Bool.{eqb-true, or_cases, and_from, and_parts, or_left, both_ways, false_from_ne_true}
use Rattle.sgt_model.specs.Paths.{Member, Distinct, Reaches, AtMost, Acyclic}
use Rattle.sgt_model.proofs.Paths.{acyclic_grows, acyclic_map, no_way_back}
use Rattle.sgt_model.proofs.Listed.{distinct_kept}
use Rattle.sgt_model.proofs.Capacity.{member_append}
use Rattle.sgt_cycle.specs.Links.{is_link, occurs}
use Rattle.sgt_cycle.specs.Path.{Holds}
use Rattle.sgt_model.proofs.Conditions.{distinct_fits}
use Rattle.sgt_graph.specs.PairGraphs.{is_node, is_apart, Once, IsPairGraph}
use Rattle.sgt_graph.proofs.Lists.{node_member, member_node, node_push, node_without, pair_here, pair_there, pair_push, pushed_cases, pair_without, end_node}
use Rattle.sgt_graph.proofs.Capacity.{pairs_fit}

-- no nodes and no edges
pub kept_none : IsPairGraph [] []
kept_none = record { few = omega arith; distinct = tt; once = tt; of_nodes = λ u v h. cc; acyclic = acyclic }
  where
    acyclic : Acyclic (Holds (is_link []))
    acyclic t [] some p e = omega arith
    acyclic t (u ∷ path) some p e = both_ways false refl p.0

-- different numbers and one more
distinct_push : (xs : List ℕ) (u : ℕ) → Distinct xs → (Member u xs → ⊥) → Distinct (xs ++ u ∷ [])
distinct_push [] u d new = ((λ m. m), tt)
distinct_push (x ∷ xs) u d new = (
  (λ m. elim (member_append x xs u m) [ inl k ↦ d.0 k | inr e ↦ new (inl (sym e)) ]),
  distinct_push xs u d.1 (λ m. new (inr m)),
)

few_kept : (f : ℕ → Bool) (xs : List ℕ) → length (filter f xs) ≤ length xs
few_kept f [] = omega arith
few_kept f (x ∷ xs) = go (f x) (few_kept f xs)
  where
    go : (b : Bool) → length (filter f xs) ≤ length xs → length (cond b (x ∷ filter f xs) (filter f xs)) ≤ length (x ∷ xs)
    go true rest = omega arith
    go false rest = omega arith

-- edges and one more
once_push : (pairs : List (ℕ × ℕ)) (u t : ℕ) → Once pairs → is_link pairs u t ≡ false → Once (pairs ++ (u, t) ∷ [])
once_push [] u t once new = (refl, tt)
once_push (p ∷ pairs) u t once new = (
  false_from_ne_true (is_link (pairs ++ (u, t) ∷ []) p.0 p.1)
      (λ h. elim (pushed_cases pairs u t p.0 p.1 (sym (pair_push pairs u t p.0 p.1) ∙ h)) [
        | inl old ↦ both_ways _ once.0 old
        | inr same ↦ both_ways _ new (pair_here p pairs u t same.0 same.1)
      ]),
  once_push pairs u t once.1 (false_from_ne_true (is_link pairs u t) (λ h. both_ways _ new (pair_there p pairs u t h))),
)

-- some of them
once_kept : (t : ℕ) (pairs : List (ℕ × ℕ)) → Once pairs → Once (filter (is_apart t) pairs)
once_kept t [] once = tt
once_kept t (p ∷ pairs) once = go (is_apart t p) (once_kept t pairs once.1)
  where
    go : (b : Bool) → Once (filter (is_apart t) pairs) → Once (cond b (p ∷ filter (is_apart t) pairs) (filter (is_apart t) pairs))
    go true rest = (
      false_from_ne_true (is_link (filter (is_apart t) pairs) p.0 p.1)
          (λ h. both_ways _ once.0 (and_parts (is_link pairs p.0 p.1) _ (sym (pair_without pairs t p.0 p.1) ∙ h)).0),
      rest,
    )
    go false rest = rest

module _ (nodes : List ℕ) (pairs : List (ℕ × ℕ)) (g : IsPairGraph nodes pairs) where
  -- its numbers are few
  pub numbers_few : (t : ℕ) → is_node nodes t ≡ true → AtMost 32 (occurs pairs t)
  numbers_few t node = record {
    among = nodes;
    few = g.few;
    all = λ u h. elim (or_cases (nat_eq t u) _ h) [
      | inl same ↦ node_member u nodes (subst (λ x. is_node nodes x ≡ true) (eqb-true t u same) node)
      | inr end ↦ node_member u nodes (end_node (is_node nodes) pairs g.of_nodes u end)
    ];
  }

  -- where few numbers pass for nodes, the list is as short
  pub nodes_fit : (most : ℕ) → AtMost most (is_node nodes) → length nodes ≤ most
  nodes_fit most capacity = omega (arith, distinct_fits nodes capacity.among g.distinct (λ x m. capacity.all x (member_node x nodes m)), capacity.few)

  -- its edges are few
  pub pairs_few : length pairs ≤ 496
  pairs_few = pairs_fit nodes pairs g.few g.once
      (λ a b h. let (from, to) = g.of_nodes a b h in (
        node_member a nodes from,
        node_member b nodes to,
        λ same. no_way_back g.acyclic a b h
            ([], tt, sym same),
      ))
      (λ a b there back. no_way_back g.acyclic a b there (a ∷ [], (back, tt), refl))

  -- a new node
  pub kept_node : (t : ℕ) → is_node nodes t ≡ false → length nodes < 32 → IsPairGraph (nodes ++ t ∷ []) pairs
  kept_node t new capacity = record {
    few = omega (arith, length-append nodes (t ∷ []));
    distinct = distinct_push nodes t g.distinct (λ m. both_ways _ new (member_node t nodes m));
    once = g.once;
    of_nodes = λ u v h. let (from, to) = g.of_nodes u v h in (node_push nodes t u ∙ or_left _ _ from, node_push nodes t v ∙ or_left _ _ to);
    acyclic = g.acyclic;
  }

  -- a new edge, where no path leads back
  pub kept_pair : (u t : ℕ) → is_node nodes u ≡ true → is_node nodes t ≡ true → (Reaches (Holds (is_link pairs)) t u → ⊥)
      → is_link pairs u t ≡ false
      → IsPairGraph nodes (pairs ++ (u, t) ∷ [])
  kept_pair u t from to free new = record {
    few = g.few;
    distinct = g.distinct;
    once = once_push pairs u t g.once new;
    of_nodes = λ a b h. elim (cases a b h) [
      | inl old ↦ g.of_nodes a b old
      | inr here ↦ (subst (λ x. is_node nodes x ≡ true) (sym here.0) from, subst (λ x. is_node nodes x ≡ true) (sym here.1) to)
    ];
    acyclic =
        acyclic_grows (Holds (is_link pairs)) (Holds (is_link (pairs ++ (u, t) ∷ []))) t (λ x. x ≡ u) (record { each = cases }) g.acyclic
        (λ x r e. free (subst (λ y. Reaches (Holds (is_link pairs)) t y) e r));
  }
    where
      cases : (a b : ℕ) → is_link (pairs ++ (u, t) ∷ []) a b ≡ true → (is_link pairs a b ≡ true) ⊎ ((a ≡ u) × (b ≡ t))
      cases a b h = pushed_cases pairs u t a b (sym (pair_push pairs u t a b) ∙ h)

  -- without a node
  pub kept_without : (t : ℕ) → IsPairGraph (filter (λ u. not (nat_eq t u)) nodes) (filter (is_apart t) pairs)
  kept_without t = record {
    few = omega (arith, few_kept (λ u. not (nat_eq t u)) nodes, g.few);
    distinct = distinct_kept (λ u. not (nat_eq t u)) nodes g.distinct;
    once = once_kept t pairs g.once;
    of_nodes = λ a b h.
        let (old, apart) = and_parts (is_link pairs a b) _ (sym (pair_without pairs t a b) ∙ h) in
        let (first, second) = and_parts (not (nat_eq t a)) (not (nat_eq t b)) apart in
        let (from, to) = g.of_nodes a b old in
        (node_without nodes t a ∙ and_from _ _ from first, node_without nodes t b ∙ and_from _ _ to second);
    acyclic = acyclic_map (λ a b h. (and_parts (is_link pairs a b) _ (sym (pair_without pairs t a b) ∙ h)).0) g.acyclic;
  }
