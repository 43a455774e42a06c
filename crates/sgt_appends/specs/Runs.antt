-- Serial runs: the transactions run one after another from empty lists, and each read sees what was observed.
use Rattle.std.specs.Prelude.{◌≡◌, ◌⊎◌, ◌++◌, ◌==◌, ℕ, List, [], ◌∷◌, Option, Some, None, slice_get, if◌then◌else◌}
use Rattle.sgt_appends.specs.declared.transaction.Operation.{Operation}
use Rattle.sgt_appends.specs.declared.transaction.Operation.TheVariants.{Append, Read}
use Rattle.sgt_appends.specs.declared.transaction.Status.{Status}
use Rattle.sgt_appends.specs.declared.transaction.Status.TheVariants.{Committed, Unknown}
use Rattle.sgt_appends.specs.declared.transaction.Transaction.{Transaction}
use Rattle.sgt_appends.specs.Lists.{Has, IsOnce}

-- the current list of each key
abbrev pub Contents : Type 0
Contents = ℕ → List ℕ

-- at first all lists are empty
abbrev pub nothing : Contents
nothing key = []

-- the contents after an operation
abbrev pub after : Operation → Contents → Contents
after (Append key value) contents k = if k == key then contents k ++ value ∷ [] else contents k
after (Read key values) contents k = contents k

-- a read sees the current list
abbrev pub Sees : Operation → Contents → Type 0
Sees (Append key value) contents = Unit {0}
Sees (Read key values) contents = values.items ≡ contents key

-- the contents after operations
abbrev pub after_all : List Operation → Contents → Contents
after_all [] contents = contents
after_all (o ∷ os) contents = after_all os (after o contents)

-- each read sees the list that the operations before it left
abbrev pub SeesAll : List Operation → Contents → Type 0
SeesAll [] contents = Unit {0}
SeesAll (o ∷ os) contents = Sees o contents × SeesAll os (after o contents)

-- the operations of a transaction, or none if there is no transaction
abbrev pub operations_or_none : Option Transaction → List Operation
operations_or_none None = []
operations_or_none (Some t) = t.operations.items

-- the operations of transaction t
abbrev pub operations_of : List Transaction → ℕ → List Operation
operations_of h t = operations_or_none (slice_get h t)

-- run one after another, each transaction sees what it observed
abbrev pub IsRun : List Transaction → Contents → List ℕ → Type 0
IsRun h contents [] = Unit {0}
IsRun h contents (t ∷ ts) = SeesAll (operations_of h t) contents × IsRun h (after_all (operations_of h t) contents) ts

-- t has this status
abbrev pub Ended : List Transaction → ℕ → Status → Type 0
Ended h t status = (x : Transaction) × (slice_get h t ≡ Some x) × (x.status ≡ status)

-- t may have taken effect
abbrev pub MayRun : List Transaction → ℕ → Type 0
MayRun h t = Ended h t Committed ⊎ Ended h t Unknown

-- A serial run has no transaction twice, each committed one, no aborted one, and any of the unknown ones.
pub record IsSerialRun (h : List Transaction) (order : List ℕ) : Type 0 where
  pub once : IsOnce order
  pub committed : (t : ℕ) → Ended h t Committed → Has order t
  pub may_run : (t : ℕ) → Has order t → MayRun h t
  pub run : IsRun h nothing order

-- there is a serial run
abbrev pub IsSerializable : List Transaction → Type 0
IsSerializable h = (order : List ℕ) × IsSerialRun h order
