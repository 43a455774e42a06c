-- The state of edges and transactions in the search for a serial order or a cycle.
use Rattle.std.specs.Prelude.{◌≡◌, ◌≢◌, ◌<◌, ◌≤◌, ◌⊎◌, ◌+◌, ℕ, List, Option, Some, None, IsSome, length, slice_get}
use Rattle.std.specs.BTreeMap.{get}
use Rattle.std.specs.Ordering.{nat_cmp}
use Rattle.sgt_classes.specs.declared.operation.Operation.{Operation}
use Rattle.sgt_classes.specs.declared.graph.Edge.{Edge}
use Rattle.sgt_classes.specs.declared.chains.EdgeEnd.{EdgeEnd}
use Rattle.sgt_classes.specs.declared.chains.EdgeEnd.TheVariants.{From, To}
use Rattle.sgt_classes.specs.declared.serial.Waits.{Waits}
use Rattle.sgt_classes.specs.declared.watched.Watched.{Watched}
use Rattle.sgt_classes.specs.Links.{link_of}
use Rattle.sgt_classes.specs.Tables.{entry_of}
use Rattle.sgt_classes.specs.Serializability.{IsCycle, IsEdgeBy}

-- the transaction at an end of an edge
abbrev pub end_of : EdgeEnd → Edge → ℕ
end_of From e = e.from
end_of To e = e.to

-- of the edges before position j, the last with the transaction at the end, or none
abbrev pub IsLastEdge : EdgeEnd → List Edge → ℕ → ℕ → Option ℕ → Type 0
IsLastEdge end es j t None = (k : ℕ) (e : Edge) → k < j → slice_get es k ≡ Some e → end_of end e ≢ t
IsLastEdge end es j t (Some i) = (i < j) × ((e : Edge) × (slice_get es i ≡ Some e) × (end_of end e ≡ t))
    × ((k : ℕ) (e : Edge) → i < k → k < j → slice_get es k ≡ Some e → end_of end e ≢ t)

-- the edges before position j by one of their ends
pub record AreChains (end : EdgeEnd) (es : List Edge) (j : ℕ) (tops below : ℕ → Option ℕ) : Type 0 where
  pub tops_are : (t : ℕ) → IsLastEdge end es j t (tops t)
  pub below_are : (k : ℕ) (e : Edge) → k < j → slice_get es k ≡ Some e → IsLastEdge end es k (end_of end e) (below k)
  pub fresh : (k : ℕ) → j ≤ k → below k ≡ None

-- The edges to u after the given one lead from transactions that are not left; the given one leads to u.
abbrev pub IsTopEdge : List Edge → (ℕ → Option ℕ) → ℕ → Option ℕ → Type 0
IsTopEdge es left u None = (k : ℕ) (e : Edge) → slice_get es k ≡ Some e → e.to ≡ u → left e.from ≡ None
IsTopEdge es left u (Some i) = ((e : Edge) × (slice_get es i ≡ Some e) × (e.to ≡ u))
    × ((k : ℕ) (e : Edge) → i < k → slice_get es k ≡ Some e → e.to ≡ u → left e.from ≡ None)

-- the watched edges by the transaction that they lead from
abbrev pub KnowsWatched : Watched → Type 0
KnowsWatched v = AreChains From v.edges.items (length v.edges.items) (entry_of v.outgoing.tops) (link_of v.outgoing.below)

-- the state of the transactions that are left
pub record AreWaits (es : List Edge) (left tops below ready : ℕ → Option ℕ) (watched : Watched) : Type 0 where
  pub apart : (t u c : ℕ) → left t ≡ Some c → left u ≡ Some c → t ≡ u
  pub tops_are : (u : ℕ) → IsTopEdge es left u (tops u)
  pub tops_left : (u : ℕ) → IsSome (tops u) → IsSome (left u)
  pub below_are : (k : ℕ) (e : Edge) → slice_get es k ≡ Some e → IsLastEdge To es k e.to (below k)
  pub ready_are : (c u : ℕ) → ready c ≡ Some u → (left u ≡ Some c) × (tops u ≡ None)
  pub watched_are : KnowsWatched watched

-- the state, by its maps
abbrev pub KnowsWaits : Waits → Type 0
KnowsWaits w =
    AreWaits w.edges.items (entry_of w.left) (entry_of w.incoming.tops) (link_of w.incoming.below) (get nat_cmp w.ready) w.watched

-- the edge is one of those before position m
abbrev pub HasBefore : List Edge → ℕ → Edge → Type 0
HasBefore es m e = (j : ℕ) × (j < m) × (slice_get es j ≡ Some e)

-- if the transaction waits, its edge is among the watched ones
abbrev pub IsWatched : Waits → ℕ → Type 0
IsWatched w u = (k : ℕ) (e : Edge) → entry_of w.incoming.tops u ≡ Some k → slice_get w.edges.items k ≡ Some e
    → HasBefore w.watched.edges.items (length w.watched.edges.items) e

-- the edge of each waiting transaction is among the watched ones
abbrev pub AllWatched : Waits → Type 0
AllWatched w = (u : ℕ) → IsWatched w u

-- if the transaction is left and waits for none, it is among the ready ones
abbrev pub IsReady : Waits → ℕ → Type 0
IsReady w u = (c : ℕ) → entry_of w.left u ≡ Some c → entry_of w.incoming.tops u ≡ None → get nat_cmp w.ready c ≡ Some u

-- each that is left and waits for none is among the ready ones
abbrev pub AllReady : Waits → Type 0
AllReady w = (u : ℕ) → IsReady w u

-- the edge leads from a transaction that is left
abbrev pub LeadsFromLeft : Waits → ℕ → Type 0
LeadsFromLeft w k = (e : Edge) → slice_get w.edges.items k ≡ Some e → IsSome (entry_of w.left e.from)

-- the transaction waits only for one that is left
abbrev pub WaitsForLeft : Waits → ℕ → Type 0
WaitsForLeft w u = (k : ℕ) (e : Edge) → entry_of w.incoming.tops u ≡ Some k → slice_get w.edges.items k ≡ Some e
    → IsSome (entry_of w.left e.from)

-- each waits only for one that is left
abbrev pub AllWait : Waits → Type 0
AllWait w = (u : ℕ) → WaitsForLeft w u

-- each that is left waits
abbrev pub AllLeftWait : Waits → Type 0
AllLeftWait w = (u : ℕ) → IsSome (entry_of w.left u) → IsSome (entry_of w.incoming.tops u)

-- each waits only for one that is left, or for t by one of the watched edges before position m
abbrev pub AllWaitBut : Waits → ℕ → ℕ → Type 0
AllWaitBut w t m = (u k : ℕ) (e : Edge) → entry_of w.incoming.tops u ≡ Some k → slice_get w.edges.items k ≡ Some e
    → IsSome (entry_of w.left e.from) ⊎ ((e.from ≡ t) × HasBefore w.watched.edges.items m e)

-- the same of all but t
abbrev pub AreSameBut : ℕ → (ℕ → Option ℕ) → (ℕ → Option ℕ) → Type 0
AreSameBut t old new = (u : ℕ) → u ≢ t → new u ≡ old u

-- no edge leads to u from a transaction that is left
abbrev pub IsFree : List Edge → (ℕ → Option ℕ) → ℕ → Type 0
IsFree es left u = (k : ℕ) (e : Edge) → slice_get es k ≡ Some e → e.to ≡ u → left e.from ≡ None

-- of those that are left, and to which no edge leads from one that is left, the one that commits first
pub record IsFirstFree (es : List Edge) (left : ℕ → Option ℕ) (t : ℕ) : Type 0 where
  pub commit : ℕ
  pub commits : left t ≡ Some commit
  pub free : IsFree es left t
  pub first : (u d : ℕ) → left u ≡ Some d → IsFree es left u → commit ≤ d

-- the chosen edge of a transaction leads to it, and from one that has a chosen edge
abbrev pub LeadBack : List Edge → (ℕ → Option ℕ) → Type 0
LeadBack es tops = (u k : ℕ) → tops u ≡ Some k → (e : Edge) × (slice_get es k ≡ Some e) × (e.to ≡ u) × IsSome (tops e.from)

-- the edges of a path are among the others
abbrev pub AreAmong : List Edge → List Edge → Type 0
AreAmong path es = (i : ℕ) (e : Edge) → slice_get path i ≡ Some e → (k : ℕ) × (slice_get es k ≡ Some e)

-- one of the edges leads to the transaction
abbrev pub Passes : List Edge → ℕ → Type 0
Passes path t = (i : ℕ) × (e : Edge) × (slice_get path i ≡ Some e) × (e.to ≡ t)

-- each edge leads to the transaction that the one before it leads from, the last leads from t, and no two lead to one
-- transaction
pub record IsPathBack (path : List Edge) (t : ℕ) : Type 0 where
  pub follow : (i : ℕ) (e f : Edge) → slice_get path i ≡ Some e → slice_get path (i + 1) ≡ Some f → e.from ≡ f.to
  pub ends : (i : ℕ) (e : Edge) → slice_get path i ≡ Some e → length path ≡ i + 1 → e.from ≡ t
  pub once : (i j : ℕ) (e f : Edge) → slice_get path i ≡ Some e → slice_get path j ≡ Some f → e.to ≡ f.to → i ≡ j

-- a cycle of each history whose serialization graph has these edges
abbrev pub IsCycleOf : List Edge → List Edge → Type 0
IsCycleOf es cycle = (h : List Operation) → ((k : ℕ) (e : Edge) → slice_get es k ≡ Some e → IsEdgeBy h e) → IsCycle h cycle
