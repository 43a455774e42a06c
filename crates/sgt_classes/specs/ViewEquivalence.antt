-- View equivalence (Bernstein, Hadzilacos and Goodman (1987), chapter 2): what two histories read, and what their
-- last writes are.
use Rattle.std.specs.Prelude.{◌≡◌, ◌<◌, ◌↔◌, ℕ, List}
use Rattle.sgt_classes.specs.declared.operation.Operation.{Operation}
use Rattle.sgt_classes.specs.declared.operation.Action.TheVariants.{Read, Write}
use Rattle.sgt_classes.specs.Histories.{Does, AbortedBefore, IsWellFormed}
use Rattle.sgt_classes.specs.Classes.{ReadsFrom}
use Rattle.sgt_classes.specs.Equivalence.{Aborts, operations_of, committed_projection, IsSameOperation, AreEquivalent, IsSerialRun}

-- no transaction aborts
abbrev pub NoneAborts : List Operation → Type 0
NoneAborts h = (t : ℕ) → ¬ Aborts h t

-- at j, t reads the initial value of the item: each transaction that has written it before has aborted before
abbrev pub ReadsInitial : List Operation → ℕ → ℕ → ℕ → Type 0
ReadsInitial h j t x = Does h j t (Read x) × ((k u : ℕ) → k < j → Does h k u (Write x) → AbortedBefore h u j)

-- at i, t makes the final write of the item: t does not abort, and each transaction that writes it later does
abbrev pub IsFinalWrite : List Operation → ℕ → ℕ → ℕ → Type 0
IsFinalWrite h i t x = Does h i t (Write x) × (¬ Aborts h t) × ((k u : ℕ) → i < k → Does h k u (Write x) → Aborts h u)

-- View equivalence. The two histories have the same operations. Of transactions that do not abort, each read reads
-- from the same write in both, or the initial value in both. The final writes are the same.
pub record AreViewEquivalent (g h : List Operation) : Type 0 where
  pub same_operations : (t : ℕ) → operations_of g t ≡ operations_of h t
  pub same_reads : (i j k l x w r : ℕ) → ¬ Aborts g w → ¬ Aborts g r → IsSameOperation w g i h k → IsSameOperation r g j h l
      → ReadsFrom g i j x w r ↔ ReadsFrom h k l x w r
  pub same_initial_reads : (j l x r : ℕ) → ¬ Aborts g r → IsSameOperation r g j h l → ReadsInitial g j r x ↔ ReadsInitial h l r x
  pub same_final_writes : (i k x t : ℕ) → IsSameOperation t g i h k → IsFinalWrite g i t x ↔ IsFinalWrite h k t x

-- if no transaction aborts, conflict equivalent histories are view equivalent
abbrev pub EquivalentAreViewEquivalent : Type 0
EquivalentAreViewEquivalent = (g h : List Operation) → NoneAborts g → AreEquivalent g h → AreViewEquivalent g h

-- an equivalent serial history of a well formed one is view equivalent to the committed projection
abbrev pub SerialRunsReadAlike : Type 0
SerialRunsReadAlike =
    (h s : List Operation) → IsWellFormed h → IsSerialRun h s → AreViewEquivalent (committed_projection h) s
