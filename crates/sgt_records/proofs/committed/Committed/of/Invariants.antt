use Rattle.std.proofs.Common.{◌≡◌, take}
use Rattle.sgt_model.specs.Contents.{Key}
use Rattle.sgt_model.specs.Databases.{contents_of}
use Rattle.sgt_records.specs.Settleds.{settled_in}
use Rattle.sgt_records.proofs.committed.Committed.of.Given as goal

-- the values of the rows so far
abbrev pub invariant-loop-key : goal.invariant-loop-key
invariant-loop-key l = (k : Key) → settled_in l.records k ≡ contents_of (take l.key-index l.opening) k
