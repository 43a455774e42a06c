use Rattle.std.proofs.Common.{ℕ, take}
use Rattle.sgt_appends.specs.Lists.{Has}
use Rattle.sgt_appends.specs.Precedences.{appended}
use Rattle.sgt_levels.specs.Replays.{values_in, places_in, IsFront}
use Rattle.sgt_levels.proofs.replay.are_free.Given as goal

abbrev pub invariant-loop-operation : goal.invariant-loop-operation
invariant-loop-operation l = (k v : ℕ) → Has (appended k (take l.operation-index l.operations)) v
    → IsFront (values_in l.columns k) (places_in l.columns k) (values_in l.columns k) l.start
