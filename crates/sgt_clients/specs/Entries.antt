-- What the objects of an input spell: the operations of transactions, and how these begin and end.
use Rattle.std.specs.Prelude.{◌≡◌, ◌≢◌, ◌⊎◌, ℕ, ℤ, Bool, true, false, List, [], ◌∷◌, ◌++◌, Option, Some, None, option_and_then, map, slice_get, codes, if◌then◌else◌}
use Rattle.std.specs.Fmt.{decimal, signed_decimal}
use Rattle.serde_json.specs.Data.{Data, null, number, unsigned, negative, string}
use Rattle.serde_json.specs.Find.{get, as_number, as_i64}
use Rattle.sgt_format.specs.Trees.{list}
use Rattle.sgt_appends.specs.declared.transaction.Operation.{Operation}
use Rattle.sgt_appends.specs.declared.transaction.Operation.TheVariants.{Append, Read}
use Rattle.sgt_appends.specs.declared.transaction.Status.TheVariants.{Committed, Aborted, Unknown}
use Rattle.sgt_clients.specs.declared.entry.Kind.{Kind}
use Rattle.sgt_clients.specs.declared.entry.Kind.TheVariants.{Invoked, Ended}
use Rattle.sgt_clients.specs.declared.entry.Entry.{Entry}
use Rattle.sgt_clients.specs.Values.{whole_of}
use Rattle.sgt_clients.specs.declared.access.Access.{Access}
use Rattle.sgt_clients.specs.declared.access.Access.TheVariants.{Appends, Reads}

-- the text of the key or process that a tree names
abbrev pub name_text : Data → Option (List ℕ)
name_text (string text) = Some text
name_text (number (unsigned n)) = Some (decimal n)
name_text (number (negative z)) = Some (signed_decimal z)
name_text tree = None

-- the key or process of this number, among these, is the one that the tree names
abbrev pub Names : List (List ℕ) → Data → ℕ → Type 0
Names names tree k = (text : List ℕ) × (name_text tree ≡ Some text) × (slice_get names k ≡ Some text)

-- the whole number that the tree is, if it is one
abbrev pub whole_in : Data → Option ℤ
whole_in tree = option_and_then as_i64 (as_number tree)

-- the whole number that a value is, as an option
abbrev pub some_whole : ℕ → Option ℤ
some_whole v = Some (whole_of v)

-- the trees are these values
abbrev pub SpellEachValue : List Data → List ℕ → Type 0
SpellEachValue trees values = map whole_in trees ≡ map some_whole values

-- the tree spells what a read saw: these values, and `null` is the empty list
abbrev pub SpellsValues : Data → List ℕ → Type 0
SpellsValues what values = ((trees : List Data) × (list what ≡ Some trees) × SpellEachValue trees values) ⊎ ((what ≡ null) × (values ≡ []))

-- a word, a key and what follows spell the operation
abbrev pub SpellsAs : List (List ℕ) → List ℕ → Data → Data → Operation → Type 0
SpellsAs keys word key what (Append k value) = (word ≡ codes "append") × Names keys key k × (whole_in what ≡ some_whole value)
SpellsAs keys word key what (Read k values) = (word ≡ codes "r") × Names keys key k × SpellsValues what values.items

-- the tree spells the operation
abbrev pub SpellsOperation : List (List ℕ) → Data → Operation → Type 0
SpellsOperation keys tree o = (word : List ℕ) × (key : Data) × (what : Data) × (list tree ≡ Some (string word ∷ key ∷ what ∷ []))
    × SpellsAs keys word key what o

-- the access of an operation: what it appends, or which key it reads
abbrev pub access_of : Operation → Access
access_of (Append k value) = Appends k value
access_of (Read k values) = Reads k

-- the operation as it counts: a read counts only if its transaction committed
abbrev pub counted : Bool → Operation → List Operation
counted committed (Append k value) = Append k value ∷ []
counted committed (Read k values) = if committed then Read k values ∷ [] else []

-- the trees spell these accesses and the operations that count, in order
abbrev pub SpellAll : Bool → List (List ℕ) → List Data → List Access → List Operation → Type 0
SpellAll committed keys [] accesses os = (accesses ≡ []) × (os ≡ [])
SpellAll committed keys (tree ∷ trees) accesses os = (o : Operation) × (others : List Access) × (rest : List Operation)
    × SpellsOperation keys tree o × (accesses ≡ access_of o ∷ others) × (os ≡ counted committed o ++ rest)
    × SpellAll committed keys trees others rest

-- the word of a kind
abbrev pub kind_word : Kind → List ℕ
kind_word Invoked = codes "invoke"
kind_word (Ended Committed) = codes "ok"
kind_word (Ended Aborted) = codes "fail"
kind_word (Ended Unknown) = codes "info"

-- whether it is the end of a transaction that committed
abbrev pub commits : Kind → Bool
commits (Ended Committed) = true
commits kind = false

-- whether an entry of the kind may have no operations: those of its invocation are known
abbrev pub may_be_silent : Kind → Bool
may_be_silent (Ended Aborted) = true
may_be_silent (Ended Unknown) = true
may_be_silent kind = false

-- the tree has a member of this name, which is this tree
abbrev pub HasMember : Data → List ℕ → Data → Type 0
HasMember tree name member = get name tree ≡ Some member

-- the tree has no list of operations
abbrev pub HasNoList : Data → Type 0
HasNoList tree = (value : Data) → HasMember tree (codes "value") value → list value ≡ None

-- the entry lists the accesses of its value
abbrev pub ListsAccesses : List (List ℕ) → Data → Entry → Type 0
ListsAccesses keys tree e = (e.listed ≡ true) × ((value : Data) × (trees : List Data) × HasMember tree (codes "value") value
    × (list value ≡ Some trees) × SpellAll (commits e.kind) keys trees e.accesses.items e.operations.items)

-- the entry lists no accesses, and may do so
abbrev pub ListsNone : Data → Entry → Type 0
ListsNone tree e = (e.listed ≡ false) × (may_be_silent e.kind ≡ true) × HasNoList tree × (e.accesses.items ≡ []) × (e.operations.items ≡ [])

-- if the tree names a function, it is that of transactions
abbrev pub IsOfTransactions : Data → Type 0
IsOfTransactions tree = (function : Data) → HasMember tree (codes "f") function → function ≡ string (codes "txn")

-- the tree names another function: it is the entry of no transaction
abbrev pub IsOther : Data → Type 0
IsOther tree = (function : Data) × HasMember tree (codes "f") function × (function ≢ string (codes "txn"))

-- the tree names the process of this number
abbrev pub IsOfProcess : List (List ℕ) → Data → ℕ → Type 0
IsOfProcess processes tree p = (name : Data) × HasMember tree (codes "process") name × Names processes name p

-- the tree is an entry of this process and kind, with these operations
pub record SpellsEntry (keys processes : List (List ℕ)) (tree : Data) (e : Entry) : Type 0 where
  pub process : IsOfProcess processes tree e.process
  pub kind : HasMember tree (codes "type") (string (kind_word e.kind))
  pub function : IsOfTransactions tree
  pub accesses : ListsAccesses keys tree e ⊎ ListsNone tree e

-- the tree is the entry, or one of no transaction
abbrev pub SpellsEntryOrOther : List (List ℕ) → List (List ℕ) → Data → Option Entry → Type 0
SpellsEntryOrOther keys processes tree None = IsOther tree
SpellsEntryOrOther keys processes tree (Some e) = SpellsEntry keys processes tree e
