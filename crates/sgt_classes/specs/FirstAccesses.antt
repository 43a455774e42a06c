-- The state of the search for the first conflicts: first accesses, and the conflicts already reported.
use Rattle.std.specs.Prelude.{◌≡◌, ◌≢◌, ◌<◌, ◌≤◌, ◌↔◌, ◌⊎◌, ℕ, List, Option, Some, None, IsSome, slice_get}
use Rattle.std.specs.BTreeMap.{get}
use Rattle.std.specs.declared.cmp.Ordering.{Ordering}
use Rattle.std.specs.Ordering.{nat_cmp, ordering_then}
use Rattle.sgt_classes.specs.declared.operation.Operation.{Operation}
use Rattle.sgt_classes.specs.declared.operation.Action.{Action}
use Rattle.sgt_classes.specs.declared.operation.Action.TheVariants.{Read, Write, Commit, Abort}
use Rattle.sgt_classes.specs.declared.graph.Edge.{Edge}
use Rattle.sgt_classes.specs.declared.first_accesses.Counted.{Counted}
use Rattle.sgt_classes.specs.declared.first_accesses.Counted.TheVariants.{Any, Writes}
use Rattle.sgt_classes.specs.declared.first_accesses.FirstAccesses.{FirstAccesses}
use Rattle.sgt_classes.specs.declared.conflicts.Conflicts.{Conflicts}
use Rattle.sgt_classes.specs.Histories.{Does, Uses, item_of}
use Rattle.sgt_classes.specs.Serializability.{Conflict}
use Rattle.sgt_classes.specs.Seen.{IsConflictBy, HasEdge}
use Rattle.sgt_classes.specs.Links.{link_of}
use Rattle.sgt_classes.specs.Tables.{entry_of}
use Rattle.sgt_classes.specs.FirstConflicts.{IsNoLater, IsReportedBefore}

-- two numbers, ordered by the first, and by the second if the first are equal
abbrev pub pair_cmp : ℕ × ℕ → ℕ × ℕ → Ordering
pair_cmp a b = ordering_then (nat_cmp a.0 b.0) (nat_cmp a.1 b.1)

-- the item that an action accesses, if its access is of the kind
abbrev pub accessed : Counted → Action → Option ℕ
accessed Any a = item_of a
accessed Writes (Read x) = None
accessed Writes (Write x) = Some x
accessed Writes Commit = None
accessed Writes Abort = None

-- at position i of the history is an access of the kind by t to x
abbrev pub IsAccess : Counted → List Operation → ℕ → ℕ → ℕ → Type 0
IsAccess Any h i t x = Uses h i t x
IsAccess Writes h i t x = Does h i t (Write x)

-- it is the first of them
abbrev pub IsFirstAccess : Counted → List Operation → ℕ → ℕ → ℕ → Type 0
IsFirstAccess kind h i t x = IsAccess kind h i t x × ((k : ℕ) → k < i → ¬ IsAccess kind h k t x)

-- the last of the first accesses to x before position j, or none
abbrev pub IsLastFirst : Counted → List Operation → ℕ → ℕ → Option ℕ → Type 0
IsLastFirst kind h j x None = (k t : ℕ) → k < j → ¬ IsFirstAccess kind h k t x
IsLastFirst kind h j x (Some i) = (i < j) × ((t : ℕ) × IsFirstAccess kind h i t x)
    × ((k t : ℕ) → i < k → k < j → ¬ IsFirstAccess kind h k t x)

-- an access by t to x before position j, or none if there is none
abbrev pub IsSomeAccess : Counted → List Operation → ℕ → ℕ → ℕ → Option ℕ → Type 0
IsSomeAccess kind h j t x None = (k : ℕ) → k < j → ¬ IsAccess kind h k t x
IsSomeAccess kind h j t x (Some i) = (i < j) × IsAccess kind h i t x

-- the stored first accesses before position j
pub record AreFirsts (kind : Counted) (h : List Operation) (j : ℕ) (tops below : ℕ → Option ℕ) (latest : ℕ × ℕ → Option ℕ) : Type 0 where
  pub tops_are : (x : ℕ) → IsLastFirst kind h j x (tops x)
  pub below_are : (k t x : ℕ) → k < j → IsFirstAccess kind h k t x → IsLastFirst kind h k x (below k)
  pub fresh : (k : ℕ) → j ≤ k → below k ≡ None
  pub latest_are : (t x : ℕ) → IsSomeAccess kind h j t x (latest (t, x))

-- the same, of its maps
abbrev pub KnowsFirsts : List Operation → ℕ → FirstAccesses → Type 0
KnowsFirsts h j s = AreFirsts s.kind h j (entry_of s.tops) (link_of s.below) (get pair_cmp s.latest)

-- the operation at position j conflicts exactly with those that access x, by this kind
abbrev pub AreRivals : List Operation → ℕ → ℕ → Counted → Type 0
AreRivals q j x kind = (i t u : ℕ) (b : Action) → Does q j u b → Conflict q i t j u ↔ IsAccess kind q i t x

-- every conflict of the operation at position j with one before position s is also one of its transaction's operation
-- at position s
abbrev pub IsRepeated : List Operation → ℕ → ℕ → Counted → ℕ → Type 0
IsRepeated q j x kind s = (i t u : ℕ) (b : Action) → i < s → Does q j u b → IsAccess kind q i t x → (s < j) × Conflict q i t s u

-- two operations of a committed projection that conflict, the first of their transactions
pub record IsFirstBy (q : List Operation) (e : Edge) : Type 0 where
  pub conflict : IsConflictBy q e
  pub first : (f : Edge) → IsConflictBy q f → f.from ≡ e.from → f.to ≡ e.to → IsNoLater e f

-- the conflicts whose later operation is before position j have edges
abbrev pub AreReported : List Operation → List Edge → ℕ → Type 0
AreReported q edges j = (i t k u : ℕ) → k < j → i < k → t ≢ u → Conflict q i t k u → HasEdge edges t u

-- the edges have their later operation before position j, or at it and the earlier one from position n on
abbrev pub AreReportable : List Edge → ℕ → ℕ → Type 0
AreReportable edges j n = (k : ℕ) (e : Edge) → slice_get edges k ≡ Some e → (e.later < j) ⊎ ((e.later ≡ j) × (n ≤ e.earlier))

-- two transactions have an entry exactly if an edge leads from the first to the second
abbrev pub ArePairs : List Edge → (ℕ × ℕ → Option ℕ) → Type 0
ArePairs edges pairs = (t u : ℕ) → IsSome (pairs (t, u)) ↔ HasEdge edges t u

-- the stored conflicts before position j, and those of the operation at j with operations from position n on
pub record AreConflicts (q : List Operation) (j n : ℕ) (edges : List Edge) (pairs : ℕ × ℕ → Option ℕ) : Type 0 where
  pub are_first : (k : ℕ) (e : Edge) → slice_get edges k ≡ Some e → IsFirstBy q e
  pub are_reported : AreReported q edges j
  pub are_pairs : ArePairs edges pairs
  pub order : (i k : ℕ) (e f : Edge) → i < k → slice_get edges i ≡ Some e → slice_get edges k ≡ Some f → IsReportedBefore e f
  pub reportable : AreReportable edges j n

-- the same, of its list and its map
abbrev pub KnowsConflicts : List Operation → ℕ → ℕ → Conflicts → Type 0
KnowsConflicts q j n s = AreConflicts q j n s.edges.items (get pair_cmp s.reported)

-- the operations at positions i and j conflict, and none before position i by the same transaction conflicts with the
-- one at position j
abbrev pub IsFirstRival : List Operation → ℕ → ℕ → Type 0
IsFirstRival q i j = (t u : ℕ) (a b : Action) → Does q i t a → Does q j u b
    → Conflict q i t j u × ((k : ℕ) → k < i → ¬ Conflict q k t j u)

-- of the first accesses to x before position j, each after the given position has its edge; at the given position is
-- one
abbrev pub AreReportedAbove : Counted → List Operation → List Edge → ℕ → ℕ → ℕ → Option ℕ → Type 0
AreReportedAbove kind q edges j x u None = (k t : ℕ) → k < j → t ≢ u → IsFirstAccess kind q k t x → HasEdge edges t u
AreReportedAbove kind q edges j x u (Some i) = (i < j) × ((t : ℕ) × IsFirstAccess kind q i t x)
    × ((k t : ℕ) → i < k → k < j → t ≢ u → IsFirstAccess kind q k t x → HasEdge edges t u)
