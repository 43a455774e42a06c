-- The state of the operations before a position.
use Rattle.std.specs.Prelude.{◌≡◌, ◌<◌, ◌≤◌, ◌≢◌, ◌↔◌, ◌⊎◌, ◌+◌, ℕ, List, Option, Some, None, IsSome, if◌then◌else◌, nat_lt, length, slice_get, is_some}
use Rattle.std.specs.BTreeMap.{get}
use Rattle.std.specs.Ordering.{nat_cmp}
use Rattle.sgt_classes.specs.declared.operation.Operation.{Operation}
use Rattle.sgt_classes.specs.declared.avoiding.Sources.{Sources}
use Rattle.sgt_classes.specs.declared.recoverable.DirtyReads.{DirtyReads}
use Rattle.sgt_classes.specs.declared.rigorous.ItemAccesses.{ItemAccesses}
use Rattle.sgt_classes.specs.declared.strict.Writes.{Writes}
use Rattle.sgt_classes.specs.declared.commit_order.LatestUse.{LatestUse}
use Rattle.sgt_classes.specs.declared.commit_order.ItemUses.{ItemUses}
use Rattle.sgt_classes.specs.declared.graph.Edge.{Edge}
use Rattle.sgt_classes.specs.declared.graph.ProjectionGraph.{ProjectionGraph}
use Rattle.sgt_classes.specs.declared.commit_order.LatestUses.{LatestUses}
use Rattle.sgt_classes.specs.declared.operation.Action.{Action}
use Rattle.sgt_classes.specs.declared.operation.Action.TheVariants.{Read, Write, Commit, Abort}
use Rattle.sgt_classes.specs.Histories.{Does, Uses, AbortedBefore, CommittedBefore, EndedBefore}
use Rattle.sgt_classes.specs.Links.{link_of}
use Rattle.sgt_classes.specs.Tables.{entry_of}
use Rattle.sgt_classes.specs.Classes.{BreaksAvoidance}
use Rattle.sgt_classes.specs.Serializability.{Conflict}

-- no operation before position p breaks the class
abbrev pub NoneBreaksBefore : (ℕ → ℕ → Type 0) → ℕ → Type 0
NoneBreaksBefore Breaks p = (i j : ℕ) → j < p → ¬ Breaks i j

-- the last write of the item before position j, or none
abbrev pub IsLastWrite : List Operation → ℕ → ℕ → Option ℕ → Type 0
IsLastWrite h j x None = (k t : ℕ) → k < j → ¬ Does h k t (Write x)
IsLastWrite h j x (Some i) = (i < j) × ((t : ℕ) × Does h i t (Write x)) × ((k t : ℕ) → i < k → k < j → ¬ Does h k t (Write x))

-- the last write of each item before position j
abbrev pub AreLastWrites : List Operation → ℕ → (ℕ → Option ℕ) → Type 0
AreLastWrites h j writes = (x : ℕ) → IsLastWrite h j x (writes x)

-- the transactions that have ended before position j
abbrev pub AreEnded : List Operation → ℕ → (ℕ → Option ℕ) → Type 0
AreEnded h j ends = (t : ℕ) → IsSome (ends t) ↔ EndedBefore h t j

-- the state of the checker of strictness, for the operations before position j
abbrev pub KnowsWrites : List Operation → ℕ → Writes → Type 0
KnowsWrites h j s = AreLastWrites h j (entry_of s.writers) × AreEnded h j (entry_of s.ended)

-- Every transaction that has written the item before position j, and after the given position, has aborted by j. At
-- the given position is a write of it.
abbrev pub IsTopWrite : List Operation → ℕ → ℕ → Option ℕ → Type 0
IsTopWrite h j x None = (k t : ℕ) → k < j → Does h k t (Write x) → AbortedBefore h t j
IsTopWrite h j x (Some i) =
    (i < j) × ((t : ℕ) × Does h i t (Write x)) × ((k t : ℕ) → i < k → k < j → Does h k t (Write x) → AbortedBefore h t j)

-- for each write before position j, where to look for an earlier one of its item if its writer has aborted
abbrev pub AreBelow : List Operation → ℕ → (ℕ → Option ℕ) → Type 0
AreBelow h j below = (i t x : ℕ) → i < j → Does h i t (Write x) → IsTopWrite h i x (below i)

-- the transactions that have done the action before position j
abbrev pub AreDone : List Operation → ℕ → Action → (ℕ → Option ℕ) → Type 0
AreDone h j a done = (t : ℕ) → IsSome (done t) ↔ ((i : ℕ) × (i < j) × Does h i t a)

-- the state that determines the write that an operation reads from
pub record AreSources (h : List Operation) (j : ℕ) (tops below commits aborts : ℕ → Option ℕ) : Type 0 where
  pub tops_are : (x : ℕ) → IsTopWrite h j x (tops x)
  pub below_are : AreBelow h j below
  pub fresh : (i : ℕ) → j ≤ i → below i ≡ None
  pub commits_are : AreDone h j Commit commits
  pub aborts_are : AreDone h j Abort aborts

-- the state of the checker of the avoidance of cascading aborts, for the operations before position j
abbrev pub KnowsSources : List Operation → ℕ → Sources → Type 0
KnowsSources h j s = AreSources h j (entry_of s.tops) (link_of s.below) (entry_of s.commits) (entry_of s.aborts)

-- the height of a position, 0 for none
abbrev pub height : Option ℕ → ℕ
height None = 0
height (Some i) = i + 1

-- a dirty read: at position k, t reads from another transaction that has not committed
abbrev pub IsDirtyRead : List Operation → ℕ → ℕ → Type 0
IsDirtyRead h k t = ((x : ℕ) × Does h k t (Read x)) × ((i : ℕ) × BreaksAvoidance h i k)

-- the last dirty read of the transaction before position j, or none
abbrev pub IsLastDirtyRead : List Operation → ℕ → ℕ → Option ℕ → Type 0
IsLastDirtyRead h j t None = (k : ℕ) → k < j → ¬ IsDirtyRead h k t
IsLastDirtyRead h j t (Some i) = (i < j) × IsDirtyRead h i t × ((k : ℕ) → i < k → k < j → ¬ IsDirtyRead h k t)

-- the state that determines a transaction's dirty reads
pub record AreDirtyReads (h : List Operation) (j : ℕ) (lasts earlier writers : ℕ → Option ℕ) : Type 0 where
  pub lasts_are : (t : ℕ) → IsLastDirtyRead h j t (lasts t)
  pub earlier_are : (k t : ℕ) → k < j → IsDirtyRead h k t → IsLastDirtyRead h k t (earlier k)
  pub fresh : (k : ℕ) → j ≤ k → earlier k ≡ None
  pub writers_are : (i k : ℕ) → k < j → (read : BreaksAvoidance h i k) → writers k ≡ Some read.writer

-- the dirty reads before position j, in the state of the checker of recoverability
abbrev pub KeepsDirtyReads : List Operation → ℕ → DirtyReads → Type 0
KeepsDirtyReads h j s = AreDirtyReads h j (entry_of s.lasts) (link_of s.earlier) (get nat_cmp s.writers)

-- the state of the checker of recoverability, for the operations before position j
abbrev pub KnowsDirtyReads : List Operation → ℕ → DirtyReads → Type 0
KnowsDirtyReads h j s = KnowsSources h j s.sources × KeepsDirtyReads h j s

-- the writer of what is read at position k has committed before position j
abbrev pub IsCleanBy : List Operation → ℕ → ℕ → Type 0
IsCleanBy h k j = (i : ℕ) (read : BreaksAvoidance h i k) → CommittedBefore h read.writer j

-- The dirty reads of t before position j, and after the given position, are clean by j. At the given position is one.
abbrev pub AreCleanAbove : List Operation → ℕ → ℕ → Option ℕ → Type 0
AreCleanAbove h j t None = (k : ℕ) → k < j → IsDirtyRead h k t → IsCleanBy h k j
AreCleanAbove h j t (Some i) =
    (i < j) × IsDirtyRead h i t × ((k : ℕ) → i < k → k < j → IsDirtyRead h k t → IsCleanBy h k j)

-- the item is written after position k and before position j
abbrev pub IsOverwritten : List Operation → ℕ → ℕ → ℕ → Type 0
IsOverwritten h k j x = (m : ℕ) × (u : ℕ) × (k < m) × (m < j) × Does h m u (Write x)

-- the last read of the item before position j, or none since its last write
abbrev pub IsLastRead : List Operation → ℕ → ℕ → Option ℕ → Type 0
IsLastRead h j x None = (k t : ℕ) → k < j → Does h k t (Read x) → IsOverwritten h k j x
IsLastRead h j x (Some i) =
    (i < j) × ((t : ℕ) × Does h i t (Read x)) × ((k t : ℕ) → i < k → k < j → Does h k t (Read x) → IsOverwritten h k j x)

-- the state that determines which transactions have read an item since its last write
pub record AreReads (h : List Operation) (j : ℕ) (lasts earlier : ℕ → Option ℕ) : Type 0 where
  pub lasts_are : (x : ℕ) → IsLastRead h j x (lasts x)
  pub earlier_are : (k t x : ℕ) → k < j → Does h k t (Read x) → IsLastRead h k x (earlier k)
  pub fresh : (k : ℕ) → j ≤ k → earlier k ≡ None

-- the state of the checker of rigorousness, for the operations before position j
pub record KnowsAccesses (h : List Operation) (j : ℕ) (s : ItemAccesses) : Type 0 where
  pub last : AreLastWrites h j (entry_of s.writes.writers)
  pub ends : AreEnded h j (entry_of s.writes.ended)
  pub reads : AreReads h j (entry_of s.lasts) (link_of s.earlier)

-- The reads of the item before position j, and after the given position, are overwritten, by t, or by an ended
-- transaction. At the given position is one.
abbrev pub AreFineAbove : List Operation → ℕ → ℕ → ℕ → Option ℕ → Type 0
AreFineAbove h j x t None =
    (k r : ℕ) → k < j → Does h k r (Read x) → IsOverwritten h k j x ⊎ ((r ≡ t) ⊎ EndedBefore h r j)
AreFineAbove h j x t (Some i) = (i < j) × ((r : ℕ) × Does h i r (Read x))
    × ((k r : ℕ) → i < k → k < j → Does h k r (Read x) → IsOverwritten h k j x ⊎ ((r ≡ t) ⊎ EndedBefore h r j))

-- the position of the transaction's first commit before position j, or none
abbrev pub IsFirstCommit : List Operation → ℕ → ℕ → Option ℕ → Type 0
IsFirstCommit h j t None = ¬ CommittedBefore h t j
IsFirstCommit h j t (Some c) = (c < j) × Does h c t Commit × ¬ CommittedBefore h t c

-- the position of each transaction's first commit before position j
abbrev pub AreFirstCommits : List Operation → ℕ → (ℕ → Option ℕ) → Type 0
AreFirstCommits h j commits = (t : ℕ) → IsFirstCommit h j t (commits t)

-- Of the operations before position j that do the action and whose transactions commit, the one whose transaction
-- commits last, or none.
abbrev pub IsLatestUse : List Operation → (ℕ → Option ℕ) → ℕ → Action → Option LatestUse → Type 0
IsLatestUse h commits j a None = (k t : ℕ) → k < j → Does h k t a → commits t ≡ None
IsLatestUse h commits j a (Some known) =
    (known.place < j) × ((t : ℕ) × Does h known.place t a × (commits t ≡ Some known.commit))
    × ((k t c : ℕ) → k < j → Does h k t a → commits t ≡ Some c → c ≤ known.commit)

-- the state of the reads and writes before position j by transactions that commit
pub record AreLatestUses (h : List Operation) (commits : ℕ → Option ℕ) (j : ℕ) (reads writes : ℕ → Option LatestUse) : Type 0 where
  pub reads_are : (x : ℕ) → IsLatestUse h commits j (Read x) (reads x)
  pub writes_are : (x : ℕ) → IsLatestUse h commits j (Write x) (writes x)

-- a use from the position of its transaction's commit and its own, if both are known
abbrev pub both : Option ℕ → Option ℕ → Option LatestUse
both None place = None
both (Some c) None = None
both (Some c) (Some i) = Some (record { commit = c; place = i })

-- the use of an item, or none
abbrev pub use_of : ItemUses → ℕ → Option LatestUse
use_of uses x = both (entry_of uses.commits x) (entry_of uses.places x)

-- the state of the checker of the commit order, for the operations before position j
pub record KnowsLatestUses (h : List Operation) (j : ℕ) (s : LatestUses) : Type 0 where
  pub commits_are : AreFirstCommits h (length h) (entry_of s.commits)
  pub uses_are : AreLatestUses h (entry_of s.commits) j (use_of s.reads) (use_of s.writes)

-- the one of two uses whose transaction commits later
abbrev pub later_use : Option LatestUse → LatestUse → LatestUse
later_use None new = new
later_use (Some known) new = if nat_lt known.commit new.commit then new else known

-- the use whose transaction commits after the given commit, or none
abbrev pub use_after : Option LatestUse → ℕ → Option ℕ
use_after None commit = None
use_after (Some known) commit = if nat_lt commit known.commit then Some known.place else None

-- two operations of a committed projection that make an edge
pub record IsConflictBy (q : List Operation) (e : Edge) : Type 0 where
  pub differ : e.from ≢ e.to
  pub order : e.earlier < e.later
  pub conflict : Conflict q e.earlier e.from e.later e.to

-- one of the edges leads from t to u
abbrev pub HasEdge : List Edge → ℕ → ℕ → Type 0
HasEdge edges t u = (k : ℕ) × (e : Edge) × (slice_get edges k ≡ Some e) × (e.from ≡ t) × (e.to ≡ u)

-- edges of a committed projection, each with two operations that conflict
abbrev pub IsGraph : List Operation → ProjectionGraph → Type 0
IsGraph q g = (k : ℕ) (e : Edge) → slice_get g.edges.items k ≡ Some e → IsConflictBy q e

-- two operations on an item, one of them a write, with no write of it between
pub record IsNextConflict (q : List Operation) (i t j u x : ℕ) : Type 0 where
  pub differ : t ≢ u
  pub order : i < j
  pub first : Uses q i t x
  pub second : Uses q j u x
  pub writes : Does q i t (Write x) ⊎ Does q j u (Write x)
  pub next : ¬ IsOverwritten q i j x

-- the edges include all conflicts with no write in between whose later operation is before the position
abbrev pub HasConflicts : List Operation → List Edge → ℕ → Type 0
HasConflicts q edges place = (i t j u x : ℕ) → j < place → IsNextConflict q i t j u x → HasEdge edges t u

-- the conflicts whose later operation is a given one, and whose earlier one is a write
abbrev pub HasWriteConflicts : List Operation → List Edge → ℕ → Type 0
HasWriteConflicts q edges j = (i t u x : ℕ) → IsNextConflict q i t j u x → Does q i t (Write x) → HasEdge edges t u

-- the conflicts whose later operation is a given one, and whose earlier one is a read
abbrev pub HasReadConflicts : List Operation → List Edge → ℕ → Type 0
HasReadConflicts q edges j = (i t u x : ℕ) → IsNextConflict q i t j u x → Does q i t (Read x) → HasEdge edges t u

-- of the reads of the item before position j, each after the given position is overwritten, by u, or has its edge; at
-- the given position is one
abbrev pub AreConnectedAbove : List Operation → List Edge → ℕ → ℕ → ℕ → Option ℕ → Type 0
AreConnectedAbove q edges j x u None =
    (k r : ℕ) → k < j → Does q k r (Read x) → IsOverwritten q k j x ⊎ ((r ≡ u) ⊎ HasEdge edges r u)
AreConnectedAbove q edges j x u (Some i) = (i < j) × ((r : ℕ) × Does q i r (Read x))
    × ((k r : ℕ) → i < k → k < j → Does q k r (Read x) → IsOverwritten q k j x ⊎ ((r ≡ u) ⊎ HasEdge edges r u))

-- an operation, or an abort in its place if its transaction does not commit
abbrev pub projected : (ℕ → Option ℕ) → Operation → Operation
projected commits op = if is_some (commits op.transaction) then op else record { transaction = op.transaction; action = Abort }
