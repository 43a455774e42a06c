-- Histories (Bernstein, Hadzilacos and Goodman (1987), chapter 2): which transaction does what at which position.
use Rattle.std.specs.Prelude.{◌≡◌, ◌<◌, ◌⊎◌, ℕ, List, Option, Some, None, slice_get}
use Rattle.sgt_classes.specs.declared.operation.Operation.{Operation}
use Rattle.sgt_classes.specs.declared.operation.Action.{Action}
use Rattle.sgt_classes.specs.declared.operation.Action.TheVariants.{Read, Write, Commit, Abort}

-- at position i of the history, transaction t does the action
abbrev pub Does : List Operation → ℕ → ℕ → Action → Type 0
Does h i t action = slice_get h i ≡ Some (record { transaction = t; action = action })

-- at position i, t reads or writes x
abbrev pub Uses : List Operation → ℕ → ℕ → ℕ → Type 0
Uses h i t x = Does h i t (Read x) ⊎ Does h i t (Write x)

-- at position i, t commits or aborts
abbrev pub Ends : List Operation → ℕ → ℕ → Type 0
Ends h i t = Does h i t Commit ⊎ Does h i t Abort

-- before position j, t has committed
abbrev pub CommittedBefore : List Operation → ℕ → ℕ → Type 0
CommittedBefore h t j = (i : ℕ) × (i < j) × Does h i t Commit

-- before position j, t has aborted
abbrev pub AbortedBefore : List Operation → ℕ → ℕ → Type 0
AbortedBefore h t j = (i : ℕ) × (i < j) × Does h i t Abort

-- before position j, t has ended
abbrev pub EndedBefore : List Operation → ℕ → ℕ → Type 0
EndedBefore h t j = (i : ℕ) × (i < j) × Ends h i t

-- Well formed: no transaction does anything after its commit or abort.
abbrev pub IsWellFormed : List Operation → Type 0
IsWellFormed h = (i t : ℕ) (a : Action) → Does h i t a → ¬ EndedBefore h t i

-- the item that an action reads or writes
abbrev pub item_of : Action → Option ℕ
item_of (Read x) = Some x
item_of (Write x) = Some x
item_of Commit = None
item_of Abort = None
