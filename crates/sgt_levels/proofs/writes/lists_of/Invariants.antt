use Rattle.std.proofs.Common.{◌≡◌, ℕ, take}
use Rattle.sgt_appends.specs.Guides.{appended_by}
use Rattle.sgt_levels.specs.Replays.{values_in}
use Rattle.sgt_levels.proofs.writes.lists_of.Given as goal

abbrev pub invariant-loop-place : goal.invariant-loop-place
invariant-loop-place l = (k : ℕ) → values_in l.lists k ≡ appended_by l.history k (take l.place l.order)
