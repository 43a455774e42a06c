-- The edges of the cycle by which an entry aborts a transaction, and that they are conflicts.
use Rattle.std.specs.Prelude.{◌≡◌, ◌+◌, ℕ, true, false, List, ◌∷◌, Option, Some, None, slice_get}
use Rattle.std.specs.Option.{is_none}
use Rattle.sgt_model.specs.declared.entry.Entry.{Entry}
use Rattle.sgt_model.specs.declared.kind.Kind.{Kind}
use Rattle.sgt_model.specs.declared.kind.Kind.TheVariants.{Look, Store}
use Rattle.sgt_model.specs.Contents.{Key}
use Rattle.sgt_model.specs.Accesses.{access_of}
use Rattle.sgt_model.specs.Pairs.{has_conflicting, Precedes, Pair}
use Rattle.sgt_model.specs.Aborts.{Wants, IsAccessBy}
use Rattle.sgt_model.specs.Configurations.{Configuration}
use Rattle.sgt_model.specs.Progress.{next_of, requested}
use Rattle.sgt_model.specs.Traces.{Next}
use Rattle.sgt_model.specs.Questions.{named_by}
use Rattle.sgt_model.specs.declared.event.Event.{Event}
use Rattle.sgt_model.specs.declared.event.Event.TheVariants as event
use Rattle.sgt_model.specs.declared.event.Request.TheVariants.{Read, Write}
use Rattle.sgt_explain.specs.declared.edge.CycleEdge.{CycleEdge}
use Rattle.sgt_explain.specs.declared.explanation.Pending.{Pending}
use Rattle.sgt_explain.specs.Places.{entries_before}
use Rattle.sgt_explain.specs.Edges.{ReportsPair, ReportsPending}

-- an edge of a cycle leads from one to the next, and from the last, which has no next, to the first. That last edge
-- is caused by the access that the first was about to make after the entries before the end
abbrev pub ReportsFrom : List Entry → (end : ℕ) → Pending → CycleEdge → (one next first : Option ℕ) → Type 0
ReportsFrom entries end pending edge None next first = ⊥
ReportsFrom entries end pending edge (Some t) (Some u) first = ReportsPair entries end t u edge
ReportsFrom entries end pending edge (Some t) None None = ⊥
ReportsFrom entries end pending edge (Some t) None (Some u) = ReportsPending entries end t u pending edge

-- this is edge number n of the cycle, from 0
abbrev pub ReportsEdge : List Entry → (end : ℕ) → Pending → List ℕ → (n : ℕ) → CycleEdge → Type 0
ReportsEdge entries end pending cycle n edge =
    ReportsFrom entries end pending edge (slice_get cycle n) (slice_get cycle (n + 1)) (slice_get cycle 0)

-- one comes before the next; and the last, which has no next, would come before one that made that access
abbrev pub HasEdgeFrom : List Entry → (end : ℕ) → Key → Kind → (one next : Option ℕ) → Type 0
HasEdgeFrom entries end key kind None next = ⊥
HasEdgeFrom entries end key kind (Some t) (Some u) = Precedes (entries_before entries end) t u
HasEdgeFrom entries end key kind (Some t) None = has_conflicting (entries_before entries end) t key kind ≡ true

-- the cycle has an edge number n, from 0, and accesses make it
abbrev pub HasEdge : List Entry → (end : ℕ) → Key → Kind → List ℕ → (n : ℕ) → Type 0
HasEdge entries end key kind cycle n = HasEdgeFrom entries end key kind (slice_get cycle n) (slice_get cycle (n + 1))

-- the access that an event requests for a caller, if it does; a write of no value removes the record
abbrev pub requested_access : Event → Option Pending
requested_access (event.Access t (Read k)) = Some (record { key = k; kind = Look; removes = false })
requested_access (event.Access t (Write k v)) = Some (record { key = k; kind = Store; removes = is_none v })
requested_access _ = None

-- what t would do by an event: the access that its caller requests, or else what its procedure does next
abbrev pub wanted_by : Configuration → List Entry → ℕ → Event → Next
wanted_by s past t (event.Access u d) = requested d
wanted_by s past t _ = next_of s past t

-- the transaction of the entry at this position was about to make an access of that kind of the key
pub record WasAbout (s : Configuration) (entries : List Entry) (place : ℕ) (key : Key) (kind : Kind) : Type 0 where
  pub entry : Entry
  pub there : slice_get entries place ≡ Some entry
  pub by : ℕ
  pub named : named_by entry.event ≡ Some by
  pub wants : Wants (wanted_by s (entries_before entries place) by entry.event) key kind

-- the two of an edge conflict in a history; if its later access was about to be made, they would conflict with that
-- access added as an entry
abbrev pub IsPairIn : List Entry → CycleEdge → (place : Option ℕ) → Type 0
IsPairIn past edge (Some n) = Pair past edge.from edge.to
IsPairIn past edge None = (e : Entry) → IsAccessBy (access_of e) edge.to edge.key edge.kind → Pair (e ∷ past) edge.from edge.to

-- the same for the history before a position
abbrev pub IsPairAt : List Entry → (place : ℕ) → CycleEdge → Type 0
IsPairAt entries place edge = IsPairIn (entries_before entries place) edge edge.place
