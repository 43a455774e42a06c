-- Nodes and edges in lists: what one more adds, and what remains without one node.
use Rattle.std.specs.Prelude.{◌≡◌, ℕ, ◌<◌, Bool, true, false, not, ◌||◌, ◌&&◌, ◌⊎◌, nat_eq, List, [], ◌∷◌, ◌++◌, length, slice_index_or}
use Rattle.std.specs.List.{filter}
use Rattle.std.proofs.Common.{zero, suc, arith, refl, sym, ◌∙◌, ap, subst, inl, inr}
use Rattle.std.proofs.lemmas.Bool.{eq-eqb, eqb-true, and_from, and_parts, or_left, or_right, or_cases}
use Rattle.std.proofs.Math.Bool.{or-false, and_comm}
use Rattle.std.proofs.lemmas.List.Folds.{list_any-append}
use Rattle.std.proofs.lemmas.Map.Views.{any-filter_same}
use Rattle.sgt_model.specs.Paths.{Member}
use Rattle.sgt_cycle.specs.Links.{is_link, is_end}
use Rattle.sgt_graph.specs.Graphs.{OfNodes}
use Rattle.sgt_graph.specs.PairGraphs.{is_node, is_apart}

-- a member is listed, and what is listed is a member
pub node_member : (t : ℕ) (nodes : List ℕ) → is_node nodes t ≡ true → Member t nodes
node_member t [] h = cc
node_member t (u ∷ nodes) h =
    elim (or_cases (nat_eq t u) _ h) [ inl here ↦ inl (eqb-true t u here) | inr there ↦ inr (node_member t nodes there) ]

pub member_node : (t : ℕ) (nodes : List ℕ) → Member t nodes → is_node nodes t ≡ true
member_node t [] m = absurd m
member_node t (u ∷ nodes) (inl e) = or_left (nat_eq t u) _ (eq-eqb t u e)
member_node t (u ∷ nodes) (inr m) = or_right (nat_eq t u) _ (member_node t nodes m)

-- the item at an index is a member
pub at_member : (xs : List ℕ) (i d : ℕ) → i < length xs → Member (slice_index_or xs i d) xs
at_member [] i d below = omega arith
at_member (y ∷ xs) zero d below = inl refl
at_member (y ∷ xs) (suc i) d below = inr (at_member xs i d (omega arith))

-- a node of a list with one more
pub node_push : (nodes : List ℕ) (t u : ℕ) → is_node (nodes ++ t ∷ []) u ≡ (is_node nodes u || nat_eq u t)
node_push nodes t u = list_any-append (λ x. nat_eq u x) nodes (t ∷ []) ∙ ap (λ b. is_node nodes u || b) (or-false (nat_eq u t))

-- a node of a list without t
pub node_without : (nodes : List ℕ) (t u : ℕ) → is_node (filter (λ x. not (nat_eq t x)) nodes) u ≡ (is_node nodes u && not (nat_eq t u))
node_without nodes t u =
    any-filter_same (λ x. nat_eq u x) (λ x. not (nat_eq t x)) (not (nat_eq t u))
    (λ x same. ap (λ y. not (nat_eq t y)) (sym (eqb-true u x same))) nodes ∙ and_comm (not (nat_eq t u)) (is_node nodes u)

-- an edge of a list is its first, or one of the others
pub pair_cases : (p : ℕ × ℕ) (pairs : List (ℕ × ℕ)) (a b : ℕ) → is_link (p ∷ pairs) a b ≡ true
    → ((p.0 ≡ a) × (p.1 ≡ b)) ⊎ (is_link pairs a b ≡ true)
pair_cases p pairs a b h = elim (or_cases (nat_eq p.0 a && nat_eq p.1 b) _ h) [
  | inl here ↦ let (first, second) = and_parts (nat_eq p.0 a) (nat_eq p.1 b) here in inl (eqb-true p.0 a first, eqb-true p.1 b second)
  | inr there ↦ inr there
]

-- the first edge of a list is one of it
pub pair_here : (p : ℕ × ℕ) (pairs : List (ℕ × ℕ)) (a b : ℕ) → p.0 ≡ a → p.1 ≡ b → is_link (p ∷ pairs) a b ≡ true
pair_here p pairs a b first second = or_left (nat_eq p.0 a && nat_eq p.1 b) _ (and_from _ _ (eq-eqb p.0 a first) (eq-eqb p.1 b second))

-- and so are the others
pub pair_there : (p : ℕ × ℕ) (pairs : List (ℕ × ℕ)) (a b : ℕ) → is_link pairs a b ≡ true → is_link (p ∷ pairs) a b ≡ true
pair_there p pairs a b h = or_right (nat_eq p.0 a && nat_eq p.1 b) _ h

-- an edge of a list with one more
pub pair_push : (pairs : List (ℕ × ℕ)) (u t a b : ℕ)
    → is_link (pairs ++ (u, t) ∷ []) a b ≡ (is_link pairs a b || (nat_eq u a && nat_eq t b))
pair_push pairs u t a b = list_any-append (λ l. nat_eq l.0 a && nat_eq l.1 b) pairs ((u, t) ∷ [])
    ∙ ap (λ x. is_link pairs a b || x) (or-false (nat_eq u a && nat_eq t b))

-- the same by cases
pub pushed_cases : (pairs : List (ℕ × ℕ)) (u t a b : ℕ) → (is_link pairs a b || (nat_eq u a && nat_eq t b)) ≡ true
    → (is_link pairs a b ≡ true) ⊎ ((a ≡ u) × (b ≡ t))
pushed_cases pairs u t a b h = elim (or_cases (is_link pairs a b) _ h) [
  | inl old ↦ inl old
  | inr new ↦ let (first, second) = and_parts (nat_eq u a) (nat_eq t b) new in inr (sym (eqb-true u a first), sym (eqb-true t b second))
]

-- an edge that is there already adds nothing
pub pair_again : (pairs : List (ℕ × ℕ)) (u t : ℕ) → is_link pairs u t ≡ true → (a b : ℕ)
    → is_link pairs a b ≡ (is_link pairs a b || (nat_eq u a && nat_eq t b))
pair_again pairs u t there a b = go (nat_eq u a && nat_eq t b) refl
  where
    go : (x : Bool) → (nat_eq u a && nat_eq t b) ≡ x → is_link pairs a b ≡ (is_link pairs a b || x)
    go true e =
        let (first, second) = and_parts (nat_eq u a) (nat_eq t b) e in
        let here : is_link pairs a b ≡ true = rw (← eqb-true u a first, ← eqb-true t b second) there in
        here ∙ sym (or_right (is_link pairs a b) true refl)
    go false e = sym (or-false (is_link pairs a b))

-- an edge of a list without those of t
pub pair_without : (pairs : List (ℕ × ℕ)) (t a b : ℕ)
    → is_link (filter (is_apart t) pairs) a b ≡ (is_link pairs a b && (not (nat_eq t a) && not (nat_eq t b)))
pair_without pairs t a b =
    any-filter_same (λ l. nat_eq l.0 a && nat_eq l.1 b) (is_apart t) (is_apart t (a, b)) same pairs
    ∙ and_comm (is_apart t (a, b)) (is_link pairs a b)
  where
    same : (l : ℕ × ℕ) → (nat_eq l.0 a && nat_eq l.1 b) ≡ true → is_apart t l ≡ is_apart t (a, b)
    same l h =
        let (first, second) = and_parts (nat_eq l.0 a) (nat_eq l.1 b) h in
        ap (λ x. not (nat_eq t x) && not (nat_eq t l.1)) (eqb-true l.0 a first)
        ∙ ap (λ y. not (nat_eq t a) && not (nat_eq t y)) (eqb-true l.1 b second)

-- the numbers of edges of nodes are nodes
pub end_node : (nodes : ℕ → Bool) (pairs : List (ℕ × ℕ)) → OfNodes nodes (is_link pairs) → (t : ℕ) → is_end pairs t ≡ true → nodes t ≡ true
end_node nodes [] of_nodes t h = cc
end_node nodes (p ∷ pairs) of_nodes t h = elim (or_cases (nat_eq p.0 t || nat_eq p.1 t) _ h) [
  | inl here ↦
      let both = of_nodes p.0 p.1 (pair_here p pairs p.0 p.1 refl refl) in
      elim (or_cases (nat_eq p.0 t) _ here) [
        | inl first ↦ subst (λ x. nodes x ≡ true) (eqb-true p.0 t first) both.0
        | inr second ↦ subst (λ x. nodes x ≡ true) (eqb-true p.1 t second) both.1
      ]
  | inr there ↦ end_node nodes pairs (λ a b link. of_nodes a b (pair_there p pairs a b link)) t there
]
