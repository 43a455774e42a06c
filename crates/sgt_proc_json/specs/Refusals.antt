-- Why a tree is not read.
use Rattle.std.specs.Prelude.{◌≡◌, ℕ, List, ◌∷◌, take, Err}
use Rattle.std.specs.Result.{IsOk}
use Rattle.serde_json.specs.Data.{Data, array, no_items, item}
use Rattle.sgt_proc_json.specs.Readings.{Reading, byte}
use Rattle.sgt_proc_json.specs.declared.errors.ReadError.{ReadError}
use Rattle.sgt_proc_json.specs.declared.errors.ReadError.TheVariants.{Shape, NoMemory}

-- the error reports the position of the first shape error, or that an allocation failed
abbrev pub Says : {A : Type 0} → Reading A → ReadError → Type 0
Says reading error = (place : List ℕ) → error ≡ Shape place → reading ≡ Err place

-- the same error, seen from the list that has the item at this index
abbrev pub error_under : ℕ → ReadError → ReadError
error_under n (Shape place) = Shape (take 128 (n ∷ place))
error_under n NoMemory = NoMemory

-- the tree is a list
abbrev pub IsList : Data → Type 0
IsList (array items) = Unit {0}
IsList tree = ⊥

-- the tree is a list of two: a number of arguments and a list. Nothing is allocated for any other tree
abbrev pub HasBody : Data → Type 0
HasBody (array (item args (item body no_items))) = IsOk (byte args) × IsList body
HasBody tree = ⊥
