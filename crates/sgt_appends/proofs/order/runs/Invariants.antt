use Rattle.std.proofs.Common.{drop}
use Rattle.sgt_appends.specs.Runs.{IsRun, nothing}
use Rattle.sgt_appends.specs.Tables.{stands}
use Rattle.sgt_appends.proofs.order.runs.Given as goal

-- the rest runs if the whole does
abbrev pub invariant-loop-number : goal.invariant-loop-number
invariant-loop-number l = IsRun l.history (stands l.contents) (drop l.number-index l.order) → IsRun l.history nothing l.order
