-- The meaning of a link: what was observed shows that one node precedes the other.
use Rattle.std.specs.Prelude.{◌≡◌, ◌≢◌, ◌⊎◌, ◌<◌, ◌+◌, ℕ, List, Some, length, slice_get}
use Rattle.sgt_appends.specs.declared.sorting.Link.{Link}
use Rattle.sgt_appends.specs.declared.witness.Reason.TheVariants.{Missed}
use Rattle.sgt_appends.specs.declared.transaction.Transaction.{Transaction}
use Rattle.sgt_appends.specs.Lists.{Has}
use Rattle.sgt_appends.specs.Graphs.{IsAmong}
use Rattle.sgt_appends.specs.Indexes.{AppendAt}
use Rattle.sgt_appends.specs.Linear.{IsKnown}
use Rattle.sgt_appends.specs.Lines.{KeyLines, values_in}
use Rattle.sgt_appends.specs.Witnesses.{IsShown, IsSeenAt}

-- the link leads from a transaction to another one that it precedes
pub record IsBetween (h : List Transaction) (l : Link) : Type 0 where
  pub source : l.from < length h
  pub target : l.to < length h
  pub differ : l.from ≢ l.to
  pub shown : IsShown h l.from l.to l.reason

-- the link leads from a reader that knows the whole line of the key to the end of the line
pub record LeadsToEnd (h : List Transaction) (lines : KeyLines) (keys : List ℕ) (l : Link) : Type 0 where
  pub source : l.from < length h
  pub number : ℕ
  pub key : ℕ
  pub read : ℕ
  pub append : ℕ
  pub seen : List ℕ
  pub target : l.to ≡ length h + number
  pub numbered : slice_get keys number ≡ Some key
  pub reason_is : l.reason ≡ Missed read append
  pub reads : IsSeenAt h l.from read key seen
  pub known : (v : ℕ) → Has (values_in lines key) v → IsKnown h l.from key seen v

-- the link leads from the end of the line of the key to the appender of a value that is not in the line
pub record LeadsFromEnd (h : List Transaction) (lines : KeyLines) (keys : List ℕ) (l : Link) : Type 0 where
  pub target : l.to < length h
  pub number : ℕ
  pub key : ℕ
  pub value : ℕ
  pub read : ℕ
  pub append : ℕ
  pub source : l.from ≡ length h + number
  pub numbered : slice_get keys number ≡ Some key
  pub reason_is : l.reason ≡ Missed read append
  pub appends : AppendAt h l.to append key value
  pub not_there : ¬ Has (values_in lines key) value

-- a link of the graph
abbrev pub IsMeant : List Transaction → KeyLines → List ℕ → Link → Type 0
IsMeant h lines keys l = IsBetween h l ⊎ (LeadsToEnd h lines keys l ⊎ LeadsFromEnd h lines keys l)

-- all links have a meaning
abbrev pub AreMeant : List Transaction → KeyLines → List ℕ → List Link → Type 0
AreMeant h lines keys links = (l : Link) → IsAmong links l → IsMeant h lines keys l
