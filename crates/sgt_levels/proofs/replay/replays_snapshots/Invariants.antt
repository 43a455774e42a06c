use Rattle.std.proofs.Common.{◌<◌, ℕ, get_or}
use Rattle.sgt_levels.specs.Replays.{values_in, places_in, IsReplayed, IsSnapshotHeld}
use Rattle.sgt_levels.proofs.replay.replays_snapshots.Given as goal

abbrev pub invariant-loop-place : goal.invariant-loop-place
invariant-loop-place l = record {
  replayed : IsReplayed l.history l.order l.place (values_in l.columns) (places_in l.columns);
  held : (i : ℕ) → i < l.place → IsSnapshotHeld l.history l.order i (get_or l.starts i 0);
}
