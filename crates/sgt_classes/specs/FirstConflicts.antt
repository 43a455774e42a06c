-- The serialization graph with one edge for each two transactions, by the first two operations that make it
-- (Bernstein, Hadzilacos and Goodman (1987), chapter 2).
use Rattle.std.specs.Prelude.{◌≡◌, ◌<◌, ◌≤◌, ◌⊎◌, ℕ, List, Some, slice_get}
use Rattle.sgt_classes.specs.declared.operation.Operation.{Operation}
use Rattle.sgt_classes.specs.declared.graph.Edge.{Edge}
use Rattle.sgt_classes.specs.Serializability.{IsEdge, IsEdgeBy}
use Rattle.sgt_classes.specs.Seen.{HasEdge}

-- the operations of e are no later than those of f: the later ones are compared, and if these are equal the earlier
-- ones
abbrev pub IsNoLater : Edge → Edge → Type 0
IsNoLater e f = (e.later < f.later) ⊎ ((e.later ≡ f.later) × (e.earlier ≤ f.earlier))

-- the edge is one of the serialization graph, by the first two operations that make it
pub record IsFirstConflict (h : List Operation) (e : Edge) : Type 0 where
  pub edge : IsEdgeBy h e
  pub first : (f : Edge) → IsEdgeBy h f → f.from ≡ e.from → f.to ≡ e.to → IsNoLater e f

-- e comes before f in the list: its later operation comes first, or they share it and the earlier one of e comes
-- after that of f
abbrev pub IsReportedBefore : Edge → Edge → Type 0
IsReportedBefore e f = (e.later < f.later) ⊎ ((e.later ≡ f.later) × (f.earlier < e.earlier))

-- The edges of the serialization graph, each once and by the first two operations that make it. They are ordered by
-- their later operations, and those of one later operation from the last earlier one back.
pub record AreFirstConflicts (h : List Operation) (edges : List Edge) : Type 0 where
  pub are_first : (k : ℕ) (e : Edge) → slice_get edges k ≡ Some e → IsFirstConflict h e
  pub are_all : (t u : ℕ) → IsEdge h t u → HasEdge edges t u
  pub once : (i j : ℕ) (e f : Edge) → slice_get edges i ≡ Some e → slice_get edges j ≡ Some f → e.from ≡ f.from → e.to ≡ f.to → i ≡ j
  pub order : (i j : ℕ) (e f : Edge) → i < j → slice_get edges i ≡ Some e → slice_get edges j ≡ Some f → IsReportedBefore e f
