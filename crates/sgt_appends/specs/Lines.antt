-- Versions of keys, and the lines: the longest ones.
use Rattle.std.specs.Prelude.{◌≡◌, ◌≢◌, ◌≤◌, ◌⊎◌, ◌++◌, ℕ, List, [], Option, Some, None, true, length, slice_get}
use Rattle.std.proofs.Common.{drop}
use Rattle.std.specs.BTreeMap.{get}
use Rattle.std.specs.BTreeSet.{BTreeSet, contains}
use Rattle.std.specs.Ordering.{nat_cmp}
use Rattle.sgt_appends.specs.declared.lines.Line.{Line}
use Rattle.sgt_appends.specs.declared.lines.Lines.{Lines}
use Rattle.sgt_appends.specs.declared.transaction.Status.TheVariants.{Committed}
use Rattle.sgt_appends.specs.declared.transaction.Transaction.{Transaction}
use Rattle.sgt_appends.specs.Runs.{operations_of, Ended}
use Rattle.sgt_appends.specs.Lists.{Has}
use Rattle.sgt_appends.specs.Precedences.{appended, Appends, Reads}
use Rattle.sgt_appends.specs.Linear.{IsKnown, IsLine}
use Rattle.sgt_appends.specs.Indexes.{pair_cmp, IsEarlier}
use Rattle.sgt_appends.specs.Reads.{IsReadAt}

-- what a read of t at position p saw, followed by what t appends to the key after it
abbrev pub version_of : List Transaction → ℕ → ℕ → ℕ → List ℕ → List ℕ
version_of h t p k seen = seen ++ appended k (drop p (operations_of h t))

-- the line of each key
abbrev pub KeyLines : Type 0
KeyLines = ℕ → Option Line

-- the contents of the map
abbrev pub line_in : Lines → KeyLines
line_in lines k = get nat_cmp lines.lines k

-- the keys, by line number
abbrev pub keys_in : Lines → List ℕ
keys_in lines = lines.keys.items

-- the values of a line, or none if there is no line
abbrev pub values_or_none : Option Line → List ℕ
values_or_none None = []
values_or_none (Some line) = line.values.items

-- the values of the line of the key
abbrev pub values_in : KeyLines → ℕ → List ℕ
values_in lines k = values_or_none (lines k)

-- the two numbers are in the set
abbrev pub has_pair : BTreeSet (ℕ × ℕ) → ℕ → ℕ → Type 0
has_pair set k v = contains pair_cmp set (k, v) ≡ true

-- each line has the number of its key
abbrev pub AreNumbered : KeyLines → List ℕ → Type 0
AreNumbered lines keys = (k : ℕ) (line : Line) → lines k ≡ Some line → slice_get keys line.number ≡ Some k

-- the key has a line with this number and these values, and the other keys keep theirs
pub record IsWithLine (old new : KeyLines) (k number : ℕ) (values : List ℕ) : Type 0 where
  pub line : Line
  pub here : new k ≡ Some line
  pub number_is : line.number ≡ number
  pub values_are : line.values.items ≡ values
  pub others : (l : ℕ) → l ≢ k → new l ≡ old l

-- the line of the key is no shorter than the version, and nothing changes
pub record IsKept (old new : KeyLines) (keys keys' : List ℕ) (k : ℕ) (values : List ℕ) : Type 0 where
  pub line : Line
  pub there : old k ≡ Some line
  pub no_longer : length values ≤ length line.values.items
  pub same : (l : ℕ) → new l ≡ old l
  pub keys_same : keys' ≡ keys

-- the version is now the line of the key
pub record IsPut (old new : KeyLines) (keys keys' : List ℕ) (k : ℕ) (values : List ℕ) : Type 0 where
  pub line : Line
  pub here : new k ≡ Some line
  pub are : line.values.items ≡ values
  pub others : (l : ℕ) → l ≢ k → new l ≡ old l
  pub numbered : ((o : Line) → old k ≡ Some o → slice_get keys o.number ≡ Some k) → slice_get keys' line.number ≡ Some k
  pub keys_stay : (i x : ℕ) → slice_get keys i ≡ Some x → slice_get keys' i ≡ Some x
  pub longer : (o : Line) → old k ≡ Some o → length o.values.items ≤ length values

-- the longer of the version and the key's old line is now the line
abbrev pub IsOffered : KeyLines → KeyLines → List ℕ → List ℕ → ℕ → List ℕ → Type 0
IsOffered old new keys keys' k values = IsKept old new keys keys' k values ⊎ IsPut old new keys keys' k values

-- the line is the version of a read of the key
pub record IsVersion (h : List Transaction) (k : ℕ) (values : List ℕ) : Type 0 where
  pub reader : ℕ
  pub position : ℕ
  pub seen : List ℕ
  pub committed : Ended h reader Committed
  pub reads : IsReadAt h reader position k seen
  pub is : values ≡ version_of h reader position k seen

-- the key has a line that is no shorter than the version
abbrev pub IsCovered : KeyLines → ℕ → List ℕ → Type 0
IsCovered lines k values = (line : Line) × (lines k ≡ Some line) × (length values ≤ length line.values.items)

-- the lines are the longest versions of the reads before position j of transaction i
pub record AreLines (h : List Transaction) (i j : ℕ) (lines : KeyLines) (keys : List ℕ) : Type 0 where
  pub versions : (k : ℕ) (line : Line) → lines k ≡ Some line → IsVersion h k line.values.items
  pub numbered : AreNumbered lines keys
  pub longest : (t p k : ℕ) (seen : List ℕ) → IsEarlier t p i j → Ended h t Committed → IsReadAt h t p k seen
      → IsCovered lines k (version_of h t p k seen)

-- the lines are the longest versions of all reads
pub record AreAllLines (h : List Transaction) (lines : KeyLines) (keys : List ℕ) : Type 0 where
  pub versions : (k : ℕ) (line : Line) → lines k ≡ Some line → IsVersion h k line.values.items
  pub numbered : AreNumbered lines keys
  pub longest : (t p k : ℕ) (seen : List ℕ) → Ended h t Committed → IsReadAt h t p k seen
      → IsCovered lines k (version_of h t p k seen)

-- each read has a line of its key
abbrev pub HaveLines : List Transaction → KeyLines → Type 0
HaveLines h lines = (r k : ℕ) (own seen : List ℕ) → Ended h r Committed → Reads h r k own seen → IsLine h k (values_in lines k)

-- a reader that knows all of the line knows no other value of the key
abbrev pub KnowsNoMore : List Transaction → KeyLines → Type 0
KnowsNoMore h lines = (r k : ℕ) (own seen : List ℕ) → Ended h r Committed → Reads h r k own seen
    → ((v : ℕ) → Has (values_in lines k) v → IsKnown h r k seen v) → (v : ℕ) → IsKnown h r k seen v → Has (values_in lines k) v

-- each value of a line is appended by a transaction
abbrev pub AreWritten : List Transaction → KeyLines → Type 0
AreWritten h lines = (k v : ℕ) → Has (values_in lines k) v → (t : ℕ) × Appends h t k v
