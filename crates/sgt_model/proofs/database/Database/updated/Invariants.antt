use Rattle.std.proofs.Common.{◌≡◌, ◌+◌, ◌-◌, ◌≤◌, length, take}
use Rattle.std.specs.Option.{option_or}
use Rattle.sgt_model.specs.Contents.{Key}
use Rattle.sgt_model.specs.Databases.{contents_of, IsByKey}
use Rattle.sgt_model.proofs.Merges.{AreApart}
use Rattle.sgt_model.proofs.database.Database.updated.Given as goal

-- the rows so far; and the newer ones among them come before all that are left
abbrev pub invariant-loop-at : goal.invariant-loop-at
invariant-loop-at l = record {
  within : l.at ≤ length l.self;
  within_newer : l.at_newer ≤ length l.newer;
  values : (k : Key) → contents_of l.both k ≡ option_or (contents_of (take l.at_newer l.newer) k) (contents_of (take l.at l.self) k);
  by_key : IsByKey l.both;
  apart : AreApart l.self l.at (take l.at_newer l.newer);
}

abbrev pub decreases-loop-at : goal.decreases-loop-at
decreases-loop-at l = (length l.self - l.at) + (length l.newer - l.at_newer)
