-- What callers see of a history.
use Rattle.std.specs.Prelude.{ℕ, List}
use Rattle.sgt_model.specs.declared.entry.Entry.{Entry}

-- the capacity of its lists in items: entries, transactions, values
pub record Capacities : Type 0 where
  pub entries : ℕ
  pub tids : ℕ
  pub values : ℕ

-- the entries, oldest first; the capacity for more entries (`spare`); and the memory that it holds
pub record HistoryView : Type 0 where
  pub entries : List Entry
  pub spare : ℕ
  pub capacities : Capacities
