use Rattle.std.proofs.Common.{◌≡◌, ℕ, drop}
use Rattle.sgt_appends.specs.Runs.{SeesAll, after_all}
use Rattle.sgt_appends.specs.Tables.{stands}
use Rattle.sgt_appends.proofs.contents.Contents.run.Given as goal

-- the rest sees and leaves what the whole does
abbrev pub invariant-loop-operation : goal.invariant-loop-operation
invariant-loop-operation l = record {
  sees : SeesAll (drop l.operation-index l.operations) (stands l.self) → SeesAll l.operations (stands l.initial.self);
  leaves : (k : ℕ) → after_all (drop l.operation-index l.operations) (stands l.self) k ≡ after_all l.operations (stands l.initial.self) k;
}
