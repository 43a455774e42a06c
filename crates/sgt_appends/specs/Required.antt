-- The links that the graph has to have: for each read and each append.
use Rattle.std.specs.Prelude.{◌≡◌, ◌≢◌, ◌⊎◌, ◌<◌, ◌+◌, ◌^◌, ℕ, suc, List, Option, Some, None, length}
use Rattle.std.proofs.Common.{get_or}
use Rattle.std.specs.BTreeMap.{BTreeMap, get}
use Rattle.std.specs.Ordering.{nat_cmp}
use Rattle.sgt_appends.specs.declared.lines.Line.{Line}
use Rattle.sgt_appends.specs.declared.sorting.Link.{Link}
use Rattle.sgt_appends.specs.declared.witness.Reason.TheVariants.{Seen, Missed, InOrder}
use Rattle.sgt_appends.specs.declared.transaction.Status.TheVariants.{Committed}
use Rattle.sgt_appends.specs.declared.transaction.Transaction.{Transaction}
use Rattle.sgt_appends.specs.Lists.{Has}
use Rattle.sgt_appends.specs.Runs.{Ended, MayRun}
use Rattle.sgt_appends.specs.Graphs.{IsAmong, AreAmong}
use Rattle.sgt_appends.specs.Indexes.{Positions, AppendAt, IsEarlier, IsIndex}
use Rattle.sgt_appends.specs.Orders.{AllClean}
use Rattle.sgt_appends.specs.Reads.{IsReadAt}
use Rattle.sgt_appends.specs.Lines.{KeyLines, AreNumbered}
use Rattle.sgt_appends.specs.Links.{IsKnownBy, IsFirstUnknown, AreAllIndexed}
use Rattle.sgt_appends.specs.Meanings.{AreMeant}

-- what links are made from: a history without faults, where its values are appended, and its lines, which have nodes too
pub record CanLink (h : List Transaction) (at : Positions) (lines : KeyLines) (keys : List ℕ) : Type 0 where
  pub index : IsIndex h at
  pub clean : AllClean h
  pub numbered : AreNumbered lines keys
  pub indexed : AreAllIndexed at lines
  pub fits : length h + length keys < 2 ^ 64

-- the nodes are the same, or a link leads from the one to the other
abbrev pub IsLinked : List Link → ℕ → ℕ → Type 0
IsLinked links a b = (a ≡ b) ⊎ ((l : Link) × IsAmong links l × (l.from ≡ a) × (l.to ≡ b))

-- the links stay, and each further one has two nodes and is one of these
pub record AreMore (old new : List Link) (are : Link → Type 0) : Type 0 where
  pub stay : AreAmong old new
  pub only : (l : Link) → IsAmong new l → IsAmong old l ⊎ ((l.from ≢ l.to) × are l)

-- the link is added, unless it leads from a node to itself
abbrev pub IsAdded : List Link → List Link → Link → Type 0
IsAdded old new link = AreMore old new (λ l. l ≡ link) × IsLinked new link.from link.to

-- the link from the appender of a value to the appender of the next one, which the read at position p of r saw
abbrev pub pair_link : ℕ × ℕ → ℕ × ℕ → ℕ → ℕ → Link
pair_link x y r p = record { from = x.0; to = y.0; reason = InOrder x.1 y.1 r p }

-- the link from the previous appender to this one is added, if there is a previous one
abbrev pub IsPaired : List Link → List Link → Option (ℕ × ℕ) → ℕ × ℕ → ℕ → ℕ → Type 0
IsPaired old new None y r p = new ≡ old
IsPaired old new (Some x) y r p = IsAdded old new (pair_link x y r p)

-- the append of the value before index i; none if there is none
abbrev pub IsBefore : Positions → ℕ → List ℕ → ℕ → Option (ℕ × ℕ) → Type 0
IsBefore at k seen i None = i ≡ 0
IsBefore at k seen i (Some x) = (j : ℕ) × (i ≡ suc j) × (at k (get_or seen j 0) ≡ Some x)

-- the link leads from the appender of a value seen to the appender of the next one
abbrev pub IsNextLink : Positions → ℕ → ℕ → ℕ → List ℕ → Link → Type 0
IsNextLink at r p k seen l = (i : ℕ) × (x : ℕ × ℕ) × (y : ℕ × ℕ) × (suc i < length seen) × (at k (get_or seen i 0) ≡ Some x)
    × (at k (get_or seen (suc i) 0) ≡ Some y) × (l ≡ pair_link x y r p)

-- the appenders of the first n values seen are linked, each with the next
abbrev pub AreNextLinked : Positions → List Link → ℕ → List ℕ → ℕ → Type 0
AreNextLinked at links k seen n = (i : ℕ) (x y : ℕ × ℕ) → suc i < n → at k (get_or seen i 0) ≡ Some x
    → at k (get_or seen (suc i) 0) ≡ Some y → IsLinked links x.0 y.0

-- for each key a read: its transaction, and its position there
abbrev pub KeyReads : Type 0
KeyReads = ℕ → Option (ℕ × ℕ)

-- the contents of the map
abbrev pub reads_in : BTreeMap ℕ (ℕ × ℕ) → KeyReads
reads_in map k = get nat_cmp map k

-- the appenders of the values that these reads saw are linked, each with the next
abbrev pub AreLongLinked : List Transaction → Positions → List Link → KeyReads → Type 0
AreLongLinked h at links reads = (k r p : ℕ) (seen : List ℕ) → reads k ≡ Some (r, p) → IsReadAt h r p k seen
    → AreNextLinked at links k seen (length seen)

-- the first i values are linked
pub record AreLinkedSoFar (at : Positions) (old new : List Link) (r p k : ℕ) (seen : List ℕ) (i : ℕ) (before : Option (ℕ × ℕ)) : Type 0 where
  pub before_is : IsBefore at k seen i before
  pub more : AreMore old new (IsNextLink at r p k seen)
  pub linked : AreNextLinked at new k seen i

-- the reader appends the value
abbrev pub IsOwn : Positions → ℕ → ℕ → ℕ → Type 0
IsOwn at r k v = (p : ℕ) × (at k v ≡ Some (r, p))

-- the reader appends all values from index i on
abbrev pub AreOwnFrom : Positions → ℕ → ℕ → List ℕ → ℕ → Type 0
AreOwnFrom at r k seen i = (j : ℕ) → i < j + 1 → j < length seen → IsOwn at r k (get_or seen j 0)

-- this is the append of the last value that the reader does not append itself
abbrev pub IsLastOther : Positions → ℕ → ℕ → List ℕ → ℕ × ℕ → Type 0
IsLastOther at r k seen x = (i : ℕ) × (i < length seen) × (at k (get_or seen i 0) ≡ Some x) × (x.0 ≢ r) × AreOwnFrom at r k seen (i + 1)

-- the link leads from the appender of a value seen to the reader
abbrev pub IsSeenLink : Positions → ℕ → ℕ → ℕ → List ℕ → Link → Type 0
IsSeenLink at r p k seen l = (v : ℕ) × (x : ℕ × ℕ) × Has seen v × (at k v ≡ Some x) × (l ≡ record { from = x.0; to = r; reason = Seen x.1 p })

-- the appender of the last value that the reader does not append is linked to the reader
abbrev pub IsLastLinked : Positions → List Link → ℕ → ℕ → List ℕ → Type 0
IsLastLinked at links r k seen = (i : ℕ) (x : ℕ × ℕ) → i < length seen → at k (get_or seen i 0) ≡ Some x
    → AreOwnFrom at r k seen (i + 1) → IsLinked links x.0 r

-- Where the link of the read leads: to the appender of the first value of the line that the reader does not know, or to
-- the end of the line. n is the number of transactions.
abbrev pub IsMissTarget : Positions → ℕ → ℕ → ℕ → List ℕ → Line → ℕ × ℕ → Type 0
IsMissTarget at n r k seen line y = IsFirstUnknown at r k seen line.values.items y
    ⊎ (((v : ℕ) → Has line.values.items v → IsKnownBy at r k seen v) × (y.0 ≡ n + line.number))

-- the link leads from the reader there
abbrev pub IsMissLink : Positions → ℕ → KeyLines → ℕ → ℕ → ℕ → List ℕ → Link → Type 0
IsMissLink at n lines r p k seen l = (line : Line) × (y : ℕ × ℕ) × (lines k ≡ Some line) × IsMissTarget at n r k seen line y
    × (l ≡ record { from = r; to = y.0; reason = Missed p y.1 })

-- the reader is linked to there
abbrev pub IsMissLinked : Positions → ℕ → KeyLines → List Link → ℕ → ℕ → List ℕ → Type 0
IsMissLinked at n lines links r k seen =
    (line : Line) → lines k ≡ Some line → (y : ℕ × ℕ) × IsMissTarget at n r k seen line y × IsLinked links r y.0

-- all links of a read
pub record IsReadLinked (at : Positions) (n : ℕ) (lines : KeyLines) (links : List Link) (r k : ℕ) (seen : List ℕ) : Type 0 where
  pub next : AreNextLinked at links k seen (length seen)
  pub last : IsLastLinked at links r k seen
  pub missed : IsMissLinked at n lines links r k seen

-- if the value is not in the line of the key, the end of the line is linked to the transaction
abbrev pub IsAppendLinked : ℕ → KeyLines → List Link → ℕ → ℕ → ℕ → Type 0
IsAppendLinked n lines links t k v = (line : Line) → lines k ≡ Some line → (¬ Has line.values.items v) → IsLinked links (n + line.number) t

-- the end of the line of the append at position p of t, whose value is not in the line
abbrev pub IsEndBefore : List Transaction → KeyLines → ℕ → ℕ → ℕ → Type 0
IsEndBefore h lines t p end = (k : ℕ) × (v : ℕ) × (line : Line) × AppendAt h t p k v × (lines k ≡ Some line)
    × (¬ Has line.values.items v) × (end ≡ length h + line.number)

-- the read at position p of t is linked, if there is one
abbrev pub IsReadLinkedAt : List Transaction → Positions → KeyLines → List Link → ℕ → ℕ → Type 0
IsReadLinkedAt h at lines links t p =
    (k : ℕ) (seen : List ℕ) → Ended h t Committed → IsReadAt h t p k seen → IsReadLinked at (length h) lines links t k seen

-- the append at position p of t is linked, if there is one
abbrev pub IsAppendLinkedAt : List Transaction → KeyLines → List Link → ℕ → ℕ → Type 0
IsAppendLinkedAt h lines links t p = (k v : ℕ) → MayRun h t → AppendAt h t p k v → IsAppendLinked (length h) lines links t k v

-- The links all have a meaning. The reads and appends before position j of transaction i are linked.
pub record AreLinked (h : List Transaction) (at : Positions) (lines : KeyLines) (keys : List ℕ) (links : List Link) (i j : ℕ) : Type 0 where
  pub meant : AreMeant h lines keys links
  pub reads : (t p : ℕ) → IsEarlier t p i j → IsReadLinkedAt h at lines links t p
  pub appends : (t p : ℕ) → IsEarlier t p i j → IsAppendLinkedAt h lines links t p

-- all reads and appends are linked
pub record AreAllLinked (h : List Transaction) (at : Positions) (lines : KeyLines) (keys : List ℕ) (links : List Link) : Type 0 where
  pub meant : AreMeant h lines keys links
  pub reads : (t p : ℕ) → IsReadLinkedAt h at lines links t p
  pub appends : (t p : ℕ) → IsAppendLinkedAt h lines links t p

-- the rank of the end of a line, or 0 if there is no line
abbrev pub end_rank : (ℕ → ℕ) → ℕ → Option Line → ℕ
end_rank rank n None = 0
end_rank rank n (Some line) = rank (n + line.number)
