-- What clients saw, as an input has it: the objects of its bytes, the entries that they spell, and the transactions that
-- these make.
use Rattle.std.specs.Prelude.{◌≡◌, ◌==◌, ◌&&◌, ◌+◌, ℕ, Bool, true, List, [], ◌∷◌, Option, Some, map, slice_get}
use Rattle.serde_json.specs.Data.{Data}
use Rattle.sgt_format.specs.Trees.{tree_of}
use Rattle.sgt_clients.specs.declared.clients.Clients.{Clients}
use Rattle.sgt_clients.specs.declared.entry.Entry.{Entry}
use Rattle.sgt_clients.specs.Entries.{SpellsEntryOrOther}
use Rattle.sgt_clients.specs.Histories.{nothing, with_entries, AreInTurn}
use Rattle.sgt_clients.specs.Objects.{Object, HasObjects}

-- the bytes are JSON, and their tree is the entry, or one of no transaction
abbrev pub Spells : List (List ℕ) → List (List ℕ) → List ℕ → Option Entry → Type 0
Spells keys processes bytes e = (tree : Data) × (tree_of bytes ≡ Some tree) × SpellsEntryOrOther keys processes tree e

-- each object spells its entry
abbrev pub SpellEach : List (List ℕ) → List (List ℕ) → List Object → List (Option Entry) → Type 0
SpellEach keys processes [] [] = Unit {0}
SpellEach keys processes [] (e ∷ es) = ⊥
SpellEach keys processes (o ∷ os) [] = ⊥
SpellEach keys processes (o ∷ os) (e ∷ es) = Spells keys processes o.bytes e × SpellEach keys processes os es

-- no two numbers stand for one key or process
abbrev pub AreApart : List (List ℕ) → Type 0
AreApart names = (k l : ℕ) (text : List ℕ) → slice_get names k ≡ Some text → slice_get names l ≡ Some text → k ≡ l

-- whether the number of each object, after this many, is that of its line
abbrev pub are_by_line : ℕ → List Object → Bool
are_by_line n [] = true
are_by_line n (o ∷ os) = o.line == n + 1 && are_by_line (n + 1) os

-- the texts of the keys
abbrev pub texts : Clients → List (List ℕ)
texts c = map (λ text. text.items) c.keys.items

-- What the clients of an input saw.
pub record AreClients (input : List ℕ) (c : Clients) : Type 0 where
  pub objects : List Object
  pub entries : List (Option Entry)
  pub processes : List (List ℕ)
  pub cut : HasObjects 1 input objects
  pub spelled : SpellEach (texts c) processes objects entries
  pub apart : AreApart (texts c)
  pub processes_apart : AreApart processes
  pub in_turn : AreInTurn nothing entries
  pub transactions : c.transactions.items ≡ (with_entries nothing entries).transactions
  pub spans : c.spans.items ≡ (with_entries nothing entries).spans
  pub events : c.events.items ≡ (with_entries nothing entries).events
  pub invoked : c.invoked ≡ (with_entries nothing entries).invoked
  pub skipped : c.skipped ≡ (with_entries nothing entries).skipped
  pub by_line : c.by_line ≡ are_by_line 0 objects
