-- How the started transactions ended, as a list of few bytes for each, with the paths of cycles in a list of their own.
use Rattle.std.specs.Prelude.{◌≡◌, ◌+◌, ◌^◌, ◌<◌, ◌≤◌, ℕ, List, [], ◌∷◌, length, map, slice_index_or, Option, Some, None}
use Rattle.sgt_model.specs.declared.reply.Cause.TheVariants as cause
use Rattle.sgt_model.specs.declared.reply.Fate.{Fate}
use Rattle.sgt_model.specs.declared.reply.Fate.TheVariants as fate
use Rattle.sgt_sched.specs.declared.fates.End.{End}
use Rattle.sgt_sched.specs.declared.fates.End.TheVariants as end

-- how each ended, if it did; for how many more starts the list of ends has capacity; and for how many the list of paths has,
-- not counting one path for each live transaction
pub record FateList : Type 0 where
  pub fates : List (Option Fate)
  pub end_capacity : ℕ
  pub cycle_capacity : ℕ

-- there is capacity for one more start
abbrev pub HasStartCapacity : FateList → Type 0
HasStartCapacity f = (0 < f.end_capacity) × (0 < f.cycle_capacity)

-- the fate of an end
abbrev pub fate_of_end : List (List ℕ) → End → Option Fate
fate_of_end cycles end.Live = None
fate_of_end cycles end.Committed = Some fate.Committed
fate_of_end cycles end.Quit = Some (fate.Aborted cause.Quit)
fate_of_end cycles (end.Asked code) = Some (fate.Aborted (cause.Asked code))
fate_of_end cycles (end.Fell first) = Some (fate.Fell first)
fate_of_end cycles (end.Cycle index) = Some (fate.Aborted (cause.Cycle (slice_index_or cycles index [])))

-- the fates of ends
abbrev pub fates_of_ends : List (List ℕ) → List End → List (Option Fate)
fates_of_ends cycles ends = map (fate_of_end cycles) ends

-- the index of an end is that of a path
abbrev pub HasPath : ℕ → End → Type 0
HasPath count (end.Cycle index) = index < count
HasPath count _ = Unit {0}

-- the indices of the ends are those of paths
abbrev pub HavePaths : ℕ → List End → Type 0
HavePaths count [] = Unit {0}
HavePaths count (e ∷ ends) = HasPath count e × HavePaths count ends

-- the paths keep their positions, perhaps with others after them
pub record AreKept (before after : List (List ℕ)) : Type 0 where
  pub count : length before ≤ length after
  pub same : (index : ℕ) → index < length before → slice_index_or after index [] ≡ slice_index_or before index []

-- 1 if it is live, else 0
abbrev pub live_in : End → ℕ
live_in end.Live = 1
live_in _ = 0

-- how many are live
abbrev pub live_among : List End → ℕ
live_among [] = 0
live_among (e ∷ ends) = live_in e + live_among ends

-- each index is that of a path; as many are live as are counted; the paths have capacity for one of each live transaction;
-- there are at most as many paths as ended transactions, and their number fits the index
pub record IsFateList (ends : List End) (cycles : List (List ℕ)) (live capacity : ℕ) : Type 0 where
  pub placed : HavePaths (length cycles) ends
  pub counted : live_among ends ≡ live
  pub enough : length cycles + live ≤ capacity
  pub ended : length cycles + live ≤ length ends
  pub few : length ends ≤ 2 ^ 32
