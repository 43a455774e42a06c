-- The classes of histories (Bernstein, Hadzilacos and Goodman (1987), chapter 2).
use Rattle.std.specs.Prelude.{◌≢◌, ◌<◌, ◌⊎◌, ℕ, List, Option, Some, None}
use Rattle.sgt_classes.specs.declared.operation.Operation.{Operation}
use Rattle.sgt_classes.specs.declared.operation.Action.TheVariants.{Read, Write, Commit}
use Rattle.sgt_classes.specs.declared.operation.Violation.{Violation}
use Rattle.sgt_classes.specs.Histories.{Does, Uses, CommittedBefore, AbortedBefore, EndedBefore}

-- Strictness: no transaction reads or writes an item that another has written that has not ended. Here the operation
-- at position j does so, after another transaction's write at position i.
pub record BreaksStrictness (h : List Operation) (i j : ℕ) : Type 0 where
  pub item : ℕ
  pub writer : ℕ
  pub user : ℕ
  pub differ : writer ≢ user
  pub earlier : i < j
  pub written : Does h i writer (Write item)
  pub used : Uses h j user item
  pub active : ¬ EndedBefore h writer j

-- no two operations violate it
abbrev pub IsStrict : List Operation → Type 0
IsStrict h = (i j : ℕ) → ¬ BreaksStrictness h i j

-- At position j a transaction reads an item from another, whose write at position i comes before. The writer has not
-- aborted by then, and every transaction that has written the item in between has.
pub record ReadsFrom (h : List Operation) (i j item writer reader : ℕ) : Type 0 where
  pub earlier : i < j
  pub written : Does h i writer (Write item)
  pub read : Does h j reader (Read item)
  pub standing : ¬ AbortedBefore h writer j
  pub last : (k t : ℕ) → i < k → k < j → Does h k t (Write item) → AbortedBefore h t j

-- Avoiding cascading aborts: a transaction reads from others only after they have committed. Here the one at position
-- j reads what another has written at position i and not committed yet.
pub record BreaksAvoidance (h : List Operation) (i j : ℕ) : Type 0 where
  pub item : ℕ
  pub writer : ℕ
  pub reader : ℕ
  pub differ : writer ≢ reader
  pub reads : ReadsFrom h i j item writer reader
  pub uncommitted : ¬ CommittedBefore h writer j

-- no two operations violate it
abbrev pub AvoidsCascadingAborts : List Operation → Type 0
AvoidsCascadingAborts h = (i j : ℕ) → ¬ BreaksAvoidance h i j

-- Recoverability: a transaction commits only after those that it has read from. Here a transaction commits at
-- position j, and at position k it has read from another that has not committed yet.
pub record BreaksRecoverability (h : List Operation) (k j : ℕ) : Type 0 where
  pub item : ℕ
  pub write : ℕ
  pub writer : ℕ
  pub reader : ℕ
  pub differ : writer ≢ reader
  pub earlier : k < j
  pub reads : ReadsFrom h write k item writer reader
  pub commits : Does h j reader Commit
  pub uncommitted : ¬ CommittedBefore h writer j

-- no two operations violate it
abbrev pub IsRecoverable : List Operation → Type 0
IsRecoverable h = (k j : ℕ) → ¬ BreaksRecoverability h k j

-- at position j a transaction writes an item that another has read at position i that has not ended
pub record OverwritesReader (h : List Operation) (i j : ℕ) : Type 0 where
  pub item : ℕ
  pub reader : ℕ
  pub writer : ℕ
  pub differ : reader ≢ writer
  pub earlier : i < j
  pub read : Does h i reader (Read item)
  pub written : Does h j writer (Write item)
  pub active : ¬ EndedBefore h reader j

-- Rigorousness (Breitbart and others (1991)): strict, and no transaction overwrites what another has read that has not
-- ended.
abbrev pub BreaksRigorousness : List Operation → ℕ → ℕ → Type 0
BreaksRigorousness h i j = BreaksStrictness h i j ⊎ OverwritesReader h i j

-- no two operations violate it
abbrev pub IsRigorous : List Operation → Type 0
IsRigorous h = (i j : ℕ) → ¬ BreaksRigorousness h i j

-- a rigorous history is strict
abbrev pub RigorousAreStrict : Type 0
RigorousAreStrict = (h : List Operation) → IsRigorous h → IsStrict h

-- a strict history avoids cascading aborts
abbrev pub StrictAvoidCascadingAborts : Type 0
StrictAvoidCascadingAborts = (h : List Operation) → IsStrict h → AvoidsCascadingAborts h

-- a history that avoids cascading aborts is recoverable
abbrev pub AvoidingAreRecoverable : Type 0
AvoidingAreRecoverable = (h : List Operation) → AvoidsCascadingAborts h → IsRecoverable h

-- None if no two operations violate it, else two that do; the later of them is the first operation that violates it
abbrev pub IsFirstViolation : (ℕ → ℕ → Type 0) → Option Violation → Type 0
IsFirstViolation Breaks None = (i j : ℕ) → ¬ Breaks i j
IsFirstViolation Breaks (Some v) = Breaks v.earlier v.later × ((i j : ℕ) → j < v.later → ¬ Breaks i j)
