use Rattle.std.proofs.Common.{◌<◌, ℕ}
use Rattle.sgt_levels.specs.Replays.{values_in, places_in, IsReplayed, AreHeld}
use Rattle.sgt_levels.proofs.replay.replays_commits.Given as goal

abbrev pub invariant-loop-place : goal.invariant-loop-place
invariant-loop-place l = record {
  replayed : IsReplayed l.history l.order l.place (values_in l.columns) (places_in l.columns);
  held : (i : ℕ) → i < l.place → AreHeld l.history l.order i;
}
