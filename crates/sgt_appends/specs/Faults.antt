-- Faults of a single read: if there is one, there is no serial run.
use Rattle.std.specs.Prelude.{◌≡◌, ◌⊎◌, ◌++◌, ℕ, List}
use Rattle.sgt_appends.specs.declared.transaction.Status.TheVariants.{Committed}
use Rattle.sgt_appends.specs.declared.transaction.Transaction.{Transaction}
use Rattle.sgt_appends.specs.Lists.{Has, StandsBefore, IsPrefix}
use Rattle.sgt_appends.specs.Runs.{operations_of, Ended, MayRun, IsSerializable}
use Rattle.sgt_appends.specs.Precedences.{appended, Appends, Reads, HasSeen, AppendsOnce}

-- a value was seen that only aborted transactions append, or none
abbrev pub IsUnwritten : List Transaction → ℕ → List ℕ → Type 0
IsUnwritten h k seen = (value : ℕ) × Has seen value × ((u : ℕ) → Appends h u k value → ¬ MayRun h u)

-- a value was seen twice in one list
abbrev pub IsTwice : List ℕ → Type 0
IsTwice seen = (value : ℕ) × StandsBefore seen value value

-- two values of one transaction were seen in the opposite order
abbrev pub IsSwapped : List Transaction → ℕ → List ℕ → Type 0
IsSwapped h k seen = (u : ℕ) × (first : ℕ) × (second : ℕ) × StandsBefore (appended k (operations_of h u)) first second
    × StandsBefore seen second first

-- the list does not end with what the reader appended before
abbrev pub EndsOtherwise : List ℕ → List ℕ → Type 0
EndsOtherwise own seen = (base : List ℕ) → ¬ (seen ≡ base ++ own)

-- the reader saw a value that it appends only later
abbrev pub IsAhead : List Transaction → ℕ → ℕ → List ℕ → List ℕ → Type 0
IsAhead h t k own seen = (value : ℕ) × Has seen value × Appends h t k value × (¬ Has own value)

-- another read of the key saw a list, and neither list is a prefix of the other
abbrev pub IsIncompatible : List Transaction → ℕ → List ℕ → Type 0
IsIncompatible h k seen = (u : ℕ) × (other : List ℕ) × HasSeen h u k other × (¬ IsPrefix seen other) × (¬ IsPrefix other seen)

-- a fault of a read of t at the key
abbrev pub IsFault : List Transaction → ℕ → ℕ → List ℕ → List ℕ → Type 0
IsFault h t k own seen = IsUnwritten h k seen ⊎ (IsTwice seen ⊎ (IsSwapped h k seen ⊎ (EndsOtherwise own seen ⊎ (IsAhead h t k own seen ⊎ IsIncompatible h k seen))))

-- if a read of a committed transaction has a fault, there is no serial run
abbrev pub FaultsAreEnough : Type 0
FaultsAreEnough = (h : List Transaction) (t k : ℕ) (own seen : List ℕ) → AppendsOnce h → Ended h t Committed
    → Reads h t k own seen → IsFault h t k own seen → ¬ IsSerializable h
