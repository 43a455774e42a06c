-- What the reader stores of what it has read.
use Rattle.std.specs.Prelude.{◌≡◌, ◌==◌, ◌&&◌, ◌+◌, ◌++◌, ℕ, List, Option}
use Rattle.std.specs.BTreeMap.{get}
use Rattle.std.specs.Ordering.{nat_cmp}
use Rattle.sgt_notation.specs.Numbering.{texts_of}
use Rattle.sgt_clients.specs.declared.clients.ClientsReader.{ClientsReader}
use Rattle.sgt_clients.specs.declared.entry.Entry.{Entry}
use Rattle.sgt_clients.specs.Histories.{Past, with_counted, with_entry, IsInTurn}
use Rattle.sgt_clients.specs.Inputs.{Spells}

-- the reader stores what has been read
pub record Stores (r : ClientsReader) (p : Past) : Type 0 where
  pub transactions : r.transactions.items ≡ p.transactions
  pub spans : r.spans.items ≡ p.spans
  pub events : r.events.items ≡ p.events
  pub active : (process : ℕ) → get nat_cmp r.active process ≡ p.active process
  pub invoked : r.invoked ≡ p.invoked
  pub entries : r.entries ≡ p.entries
  pub skipped : r.skipped ≡ p.skipped

-- the keys, the processes, the number of entries and whether each is that of its line are the same
pub record IsSame (old new : ClientsReader) : Type 0 where
  pub keys : new.keys ≡ old.keys
  pub processes : new.processes ≡ old.processes
  pub entries : new.entries ≡ old.entries
  pub by_line : new.by_line ≡ old.by_line

-- the reader has read the bytes of an object, which counts already
pub record TakesText (old new : ClientsReader) (bytes : List ℕ) : Type 0 where
  pub entry : Option Entry
  pub more : List (List ℕ)
  pub keys : texts_of new.keys ≡ texts_of old.keys ++ more
  pub others : List (List ℕ)
  pub processes : texts_of new.processes ≡ texts_of old.processes ++ others
  pub spelled : Spells (texts_of new.keys) (texts_of new.processes) bytes entry
  pub in_turn : (p : Past) → Stores old p → IsInTurn p entry
  pub stored : (p : Past) → Stores old p → Stores new (with_counted p entry)
  pub entries : new.entries ≡ old.entries
  pub by_line : new.by_line ≡ old.by_line

-- the reader has read an object, which starts on this line
pub record Takes (old new : ClientsReader) (line : ℕ) (bytes : List ℕ) : Type 0 where
  pub entry : Option Entry
  pub more : List (List ℕ)
  pub keys : texts_of new.keys ≡ texts_of old.keys ++ more
  pub others : List (List ℕ)
  pub processes : texts_of new.processes ≡ texts_of old.processes ++ others
  pub spelled : Spells (texts_of new.keys) (texts_of new.processes) bytes entry
  pub in_turn : (p : Past) → Stores old p → IsInTurn p entry
  pub stored : (p : Past) → Stores old p → Stores new (with_entry p entry)
  pub entries : new.entries ≡ old.entries + 1
  pub by_line : new.by_line ≡ (old.by_line && line == old.entries + 1)
