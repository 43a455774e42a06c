-- The serialization graph and commit ordered histories (Bernstein, Hadzilacos and Goodman (1987), chapter 2), of the
-- committed projection: the operations of those that commit.
use Rattle.std.specs.Prelude.{◌≡◌, ◌≢◌, ◌<◌, ◌⊎◌, ◌↔◌, ℕ, List, [], ◌∷◌, Some, slice_get, length, ◌-◌, ◌+◌}
use Rattle.sgt_classes.specs.declared.operation.Operation.{Operation}
use Rattle.sgt_classes.specs.declared.graph.Edge.{Edge}
use Rattle.sgt_classes.specs.declared.operation.Action.TheVariants.{Read, Write, Commit}
use Rattle.sgt_classes.specs.Histories.{Does, Uses, CommittedBefore}

-- t commits
abbrev pub Commits : List Operation → ℕ → Type 0
Commits h t = (i : ℕ) × Does h i t Commit

-- an operation of t at position i and one of u at position j are on one item, and one of them writes it
abbrev pub Conflict : List Operation → ℕ → ℕ → ℕ → ℕ → Type 0
Conflict h i t j u = (x : ℕ) × Uses h i t x × Uses h j u x × (Does h i t (Write x) ⊎ Does h j u (Write x))

-- The serialization graph has an edge from t to u: both commit, and an operation of t conflicts with a later one of u.
pub record IsEdge (h : List Operation) (t u : ℕ) : Type 0 where
  pub differ : t ≢ u
  pub commits_first : Commits h t
  pub commits_second : Commits h u
  pub place : ℕ
  pub later : ℕ
  pub order : place < later
  pub conflict : Conflict h place t later u

-- the serialization graph has a path from t through the others to u
abbrev pub IsPath : List Operation → ℕ → List ℕ → ℕ → Type 0
IsPath h t [] u = IsEdge h t u
IsPath h t (v ∷ others) u = IsEdge h t v × IsPath h v others u

-- the serialization graph has no cycle
abbrev pub IsAcyclic : List Operation → Type 0
IsAcyclic h = (t : ℕ) (others : List ℕ) → ¬ IsPath h t others t

-- Commit ordered: if operations of two committed transactions conflict, the transaction of the earlier one commits
-- first. Here the transaction of the operation at position j commits while the one of the earlier, conflicting
-- operation at position i has yet to commit.
pub record BreaksCommitOrder (h : List Operation) (i j : ℕ) : Type 0 where
  pub before : ℕ
  pub after : ℕ
  pub commit : ℕ
  pub differ : before ≢ after
  pub earlier : i < j
  pub conflict : Conflict h i before j after
  pub commits : Commits h before
  pub commits_after : Does h commit after Commit
  pub inverted : ¬ CommittedBefore h before commit

-- no two operations violate it
abbrev pub IsCommitOrdered : List Operation → Type 0
IsCommitOrdered h = (i j : ℕ) → ¬ BreaksCommitOrder h i j

-- the edge is one of the serialization graph, with its two operations
pub record IsEdgeBy (h : List Operation) (e : Edge) : Type 0 where
  pub differ : e.from ≢ e.to
  pub commits_first : Commits h e.from
  pub commits_second : Commits h e.to
  pub order : e.earlier < e.later
  pub conflict : Conflict h e.earlier e.from e.later e.to

-- The committed projection in place: the reads and writes of the transactions that commit, each at its position in
-- the history.
abbrev pub IsProjectionInPlace : List Operation → List Operation → Type 0
IsProjectionInPlace h q = (i t x : ℕ) → (Does q i t (Read x) ↔ (Does h i t (Read x) × Commits h t))
    × (Does q i t (Write x) ↔ (Does h i t (Write x) × Commits h t))

-- numbers of transactions that increase along the edges
abbrev pub Rises : (ℕ → ℕ) → List Edge → Type 0
Rises rank edges = (k : ℕ) (e : Edge) → slice_get edges k ≡ Some e → rank e.from < rank e.to

-- Edges of the serialization graph that reach what all its edges reach: numbers that increase along them increase
-- along all its edges.
pub record ReachAll (h : List Operation) (edges : List Edge) : Type 0 where
  pub are_edges : (k : ℕ) (e : Edge) → slice_get edges k ≡ Some e → IsEdgeBy h e
  pub are_enough : (rank : ℕ → ℕ) → Rises rank edges → (t u : ℕ) → IsEdge h t u → rank t < rank u

-- A serial order of the committed transactions: each once, and each edge of the serialization graph leads forward.
pub record IsSerialOrder (h : List Operation) (order : List ℕ) : Type 0 where
  pub once : (i j t : ℕ) → slice_get order i ≡ Some t → slice_get order j ≡ Some t → i ≡ j
  pub are_committed : (t : ℕ) → Commits h t ↔ ((i : ℕ) × (slice_get order i ≡ Some t))
  pub leads_on : (i j t u : ℕ) → IsEdge h t u → slice_get order i ≡ Some t → slice_get order j ≡ Some u → i < j

-- A cycle of the serialization graph: each edge starts where the one before it ends, and the first where the last
-- ends. No two edges start at one transaction.
pub record IsCycle (h : List Operation) (edges : List Edge) : Type 0 where
  pub some : 0 < length edges
  pub are_edges : (i : ℕ) (e : Edge) → slice_get edges i ≡ Some e → IsEdgeBy h e
  pub follow : (i : ℕ) (e f : Edge) → slice_get edges i ≡ Some e → slice_get edges (i + 1) ≡ Some f → e.to ≡ f.from
  pub closes : (e f : Edge) → slice_get edges 0 ≡ Some e → slice_get edges (length edges - 1) ≡ Some f → f.to ≡ e.from
  pub once : (i j : ℕ) (e f : Edge) → slice_get edges i ≡ Some e → slice_get edges j ≡ Some f → e.from ≡ f.from → i ≡ j
