-- What an explained edge says: the accesses because of which one transaction comes before another. If several would
-- do, it names the first in the history, so the answer is unique.
use Rattle.std.specs.Prelude.{◌≡◌, ◌⊎◌, ℕ, true, List, Some, None, IsSome}
use Rattle.sgt_model.specs.declared.entry.Entry.{Entry}
use Rattle.sgt_model.specs.declared.kind.Kind.{Kind}
use Rattle.sgt_model.specs.declared.kind.Kind.TheVariants.{Look, Store}
use Rattle.sgt_model.specs.Contents.{Key}
use Rattle.sgt_model.specs.Pairs.{one_stores, FollowsIn}
use Rattle.sgt_model.specs.Aborts.{IsAccessBy}
use Rattle.sgt_explain.specs.declared.edge.Earlier.{Earlier}
use Rattle.sgt_explain.specs.declared.edge.CycleEdge.{CycleEdge}
use Rattle.sgt_explain.specs.declared.explanation.Pending.{Pending}
use Rattle.sgt_explain.specs.Firsts.{IsFirst, FirstOrNone}
use Rattle.sgt_explain.specs.Places.{entries_before, placed_access, is_removal, removes_at}

-- at this position t has an access of the key, of the kind `earlier`, which conflicts with one of the kind `later`
abbrev pub ConflictsAt : List Entry → ℕ → Key → (earlier later : Kind) → ℕ → Type 0
ConflictsAt entries t key earlier later place = IsAccessBy (placed_access entries place) t key earlier × (one_stores earlier later ≡ true)

-- t's first read and its first write before the end that conflict with an access of that kind of the key, and whether that
-- write is a removal
pub record ReportsEarlier (entries : List Entry) (end t : ℕ) (key : Key) (kind : Kind) (reported : Earlier) : Type 0 where
  pub looked : FirstOrNone (ConflictsAt entries t key Look kind) end reported.looked
  pub stored : FirstOrNone (ConflictsAt entries t key Store kind) end reported.stored
  pub removed : reported.removed ≡ removes_at entries reported.stored
  pub one : IsSome reported.looked ⊎ IsSome reported.stored

-- at this position u has an access that an earlier one of t's conflicts with
abbrev pub FollowsAt : List Entry → (t u place : ℕ) → Type 0
FollowsAt entries t u place = FollowsIn (entries_before entries place) (placed_access entries place) t u

-- u's access at this position, and those of t that come before it and conflict with it
pub record ReportsAccess (entries : List Entry) (t u place : ℕ) (edge : CycleEdge) : Type 0 where
  pub from : edge.from ≡ t
  pub to : edge.to ≡ u
  pub place_is : edge.place ≡ Some place
  pub access : IsAccessBy (placed_access entries place) u edge.key edge.kind
  pub removes : edge.removes ≡ is_removal (placed_access entries place)
  pub earlier : ReportsEarlier entries place t edge.key edge.kind edge.earlier

-- why t comes before u in the entries before the end: u's first access that an earlier one of t's conflicts with
pub record ReportsPair (entries : List Entry) (end t u : ℕ) (edge : CycleEdge) : Type 0 where
  pub at : ℕ
  pub first : IsFirst (FollowsAt entries t u) end at
  pub access : ReportsAccess entries t u at edge

-- why t would come before u after the entries before the end: because of the access that u was about to make
pub record ReportsPending (entries : List Entry) (end t u : ℕ) (pending : Pending) (edge : CycleEdge) : Type 0 where
  pub from : edge.from ≡ t
  pub to : edge.to ≡ u
  pub key_is : edge.key ≡ pending.key
  pub kind_is : edge.kind ≡ pending.kind
  pub removes_is : edge.removes ≡ pending.removes
  pub place_is : edge.place ≡ None
  pub earlier : ReportsEarlier entries end t pending.key pending.kind edge.earlier
