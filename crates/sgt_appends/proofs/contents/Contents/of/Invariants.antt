use Rattle.std.proofs.Common.{◌≡◌, ℕ, take}
use Rattle.sgt_appends.specs.Precedences.{appended}
use Rattle.sgt_appends.specs.Tables.{stands}
use Rattle.sgt_appends.proofs.contents.Contents.of.Given as goal

abbrev pub invariant-loop-operation : goal.invariant-loop-operation
invariant-loop-operation l = (k : ℕ) → stands l.all k ≡ appended k (take l.operation-index l.operations)
