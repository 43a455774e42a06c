-- A graph as two lists: its nodes, and its edges.
use Rattle.std.specs.Prelude.{◌≡◌, ℕ, ◌≤◌, Bool, false, not, ◌&&◌, nat_eq, List, [], ◌∷◌, length}
use Rattle.std.specs.List.{list_any}
use Rattle.sgt_model.specs.Paths.{Distinct}
use Rattle.sgt_cycle.specs.Links.{is_link}
use Rattle.sgt_graph.specs.Graphs.{NoCycle, OfNodes}

-- whether the number is listed
abbrev pub is_node : List ℕ → ℕ → Bool
is_node nodes t = list_any (λ u. nat_eq t u) nodes

-- no edge is listed twice
abbrev pub Once : List (ℕ × ℕ) → Type 0
Once [] = Unit {0}
Once (p ∷ pairs) = (is_link pairs p.0 p.1 ≡ false) × Once pairs

-- the two lists are a graph without a cycle, of at most 32 nodes
pub record IsPairGraph (nodes : List ℕ) (pairs : List (ℕ × ℕ)) : Type 0 where
  pub few : length nodes ≤ 32
  pub distinct : Distinct nodes
  pub once : Once pairs
  pub of_nodes : OfNodes (is_node nodes) (is_link pairs)
  pub acyclic : NoCycle (is_link pairs)

-- whether neither end of the edge is t
abbrev pub is_apart : ℕ → ℕ × ℕ → Bool
is_apart t p = not (nat_eq t p.0) && not (nat_eq t p.1)
