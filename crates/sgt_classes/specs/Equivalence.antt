-- Serializable histories (Bernstein, Hadzilacos and Goodman (1987), chapter 2): the committed projection is conflict
-- equivalent to a serial history.
use Rattle.std.specs.Prelude.{◌≡◌, ◌≢◌, ◌<◌, ◌⊎◌, ◌↔◌, ◌&&◌, ℕ, List, Bool, true, false, filter, flat_map, length, take, nat_eq}
use Rattle.std.specs.List.{list_any}
use Rattle.sgt_classes.specs.declared.operation.Operation.{Operation}
use Rattle.sgt_classes.specs.declared.operation.Action.{Action}
use Rattle.sgt_classes.specs.declared.graph.Edge.{Edge}
use Rattle.sgt_classes.specs.declared.operation.Action.TheVariants.{Read, Write, Commit, Abort}
use Rattle.sgt_classes.specs.Histories.{Does, IsWellFormed}
use Rattle.sgt_classes.specs.Serializability.{Commits, Conflict, IsAcyclic, IsSerialOrder, IsCycle, IsCommitOrdered}

-- t aborts
abbrev pub Aborts : List Operation → ℕ → Type 0
Aborts h t = (i : ℕ) × Does h i t Abort

-- whether the action is a commit
abbrev pub is_commit : Action → Bool
is_commit (Read x) = false
is_commit (Write x) = false
is_commit Commit = true
is_commit Abort = false

-- whether t commits
abbrev pub has_committed : List Operation → ℕ → Bool
has_committed h t = list_any (λ (o : Operation). nat_eq o.transaction t && is_commit o.action) h

-- The committed projection: the operations of the transactions that commit, in the order of the history.
abbrev pub committed_projection : List Operation → List Operation
committed_projection h = filter (λ (o : Operation). has_committed h o.transaction) h

-- the operations of t, in the order of the history
abbrev pub operations_of : List Operation → ℕ → List Operation
operations_of h t = filter (λ (o : Operation). nat_eq o.transaction t) h

-- One operation of t in two histories, at i in g and at k in h: the same action, after the same number of operations
-- of t.
pub record IsSameOperation (t : ℕ) (g : List Operation) (i : ℕ) (h : List Operation) (k : ℕ) : Type 0 where
  pub action : Action
  pub here : Does g i t action
  pub there : Does h k t action
  pub after_as_many : length (operations_of (take i g) t) ≡ length (operations_of (take k h) t)

-- Conflict equivalence. The two histories have the same operations, and those of each transaction are in the same
-- order. Conflicting operations of two transactions that do not abort are in the same order in both.
pub record AreEquivalent (g h : List Operation) : Type 0 where
  pub same_operations : (t : ℕ) → operations_of g t ≡ operations_of h t
  pub same_order : (t u i j k l : ℕ) → t ≢ u → ¬ Aborts g t → ¬ Aborts g u → Conflict g i t j u
      → IsSameOperation t g i h k → IsSameOperation u g j h l → i < j → k < l

-- all operations of t come before all operations of u
abbrev pub IsWhollyBefore : List Operation → ℕ → ℕ → Type 0
IsWhollyBefore h t u = (i j : ℕ) (a b : Action) → Does h i t a → Does h j u b → i < j

-- Serial: for each two transactions, all operations of one come before all operations of the other.
abbrev pub IsSerialHistory : List Operation → Type 0
IsSerialHistory h = (t u : ℕ) → t ≢ u → IsWhollyBefore h t u ⊎ IsWhollyBefore h u t

-- s is a serial history that is conflict equivalent to the committed projection of h
pub record IsSerialRun (h s : List Operation) : Type 0 where
  pub serial : IsSerialHistory s
  pub equivalent : AreEquivalent (committed_projection h) s

-- Serializable: the committed projection is conflict equivalent to a serial history.
abbrev pub IsSerializable : List Operation → Type 0
IsSerializable h = (s : List Operation) × IsSerialRun h s

-- s is such a serial history that keeps real time: of two transactions that commit, if all operations of one come before
-- all of the other, then so they do in s
pub record IsRealTimeRun (h s : List Operation) : Type 0 where
  pub run : IsSerialRun h s
  pub real_time : (t u : ℕ) → t ≢ u → Commits h t → Commits h u → IsWhollyBefore h t u → IsWhollyBefore s t u

-- Strictly serializable (Papadimitriou (1979)): serializable in real time.
abbrev pub IsStrictlySerializable : List Operation → Type 0
IsStrictlySerializable h = (s : List Operation) × IsRealTimeRun h s

-- the operations of the listed transactions, one transaction after another
abbrev pub serial_history : List Operation → List ℕ → List Operation
serial_history h order = flat_map (operations_of h) order

-- The serializability theorem: a well formed history is serializable exactly if its serialization graph has no cycle.
abbrev pub SerializabilityTheorem : Type 0
SerializabilityTheorem = (h : List Operation) → IsWellFormed h → IsSerializable h ↔ IsAcyclic h

-- If there is a serial order, the graph has no cycle. The transactions one after another in this order are an
-- equivalent serial history.
abbrev pub SerialOrdersAreEnough : Type 0
SerialOrdersAreEnough =
    (h : List Operation) (order : List ℕ) → IsSerialOrder h order → IsAcyclic h × IsSerialRun h (serial_history h order)

-- if edges form a cycle, the graph has one, and a well formed history is not serializable
abbrev pub CyclesAreEnough : Type 0
CyclesAreEnough = (h : List Operation) (edges : List Edge) → IsCycle h edges → (¬ IsAcyclic h) × (IsWellFormed h → ¬ IsSerializable h)

-- if a history is commit ordered, its graph has no cycle, and it is serializable
abbrev pub CommitOrderedAreSerializable : Type 0
CommitOrderedAreSerializable = (h : List Operation) → IsCommitOrdered h → IsAcyclic h × IsSerializable h

-- conflict equivalence is reflexive, symmetric and transitive
pub record EquivalenceLaws : Type 0 where
  pub reflexive : (h : List Operation) → AreEquivalent h h
  pub symmetric : (g h : List Operation) → AreEquivalent g h → AreEquivalent h g
  pub transitive : (f g h : List Operation) → AreEquivalent f g → AreEquivalent g h → AreEquivalent f h

-- if s is an equivalent serial history of a well formed one, it is well formed, and each of its transactions commits
abbrev pub SerialRunsAreComplete : Type 0
SerialRunsAreComplete = (h s : List Operation) → IsWellFormed h → IsSerialRun h s
    → IsWellFormed s × ((i t : ℕ) (a : Action) → Does s i t a → Commits s t)
