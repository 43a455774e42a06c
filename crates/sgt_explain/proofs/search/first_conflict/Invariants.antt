use Rattle.std.proofs.Common.{◌≤◌, length}
use Rattle.sgt_explain.specs.Edges.{ConflictsAt}
use Rattle.sgt_explain.proofs.Backward.{FirstFrom}
use Rattle.sgt_explain.proofs.search.first_conflict.Given as goal

abbrev pub invariant-loop-rest : goal.invariant-loop-rest
invariant-loop-rest l = record {
  within : l.rest ≤ length l.history;
  found : FirstFrom (ConflictsAt l.history l.by l.key l.kind l.fn.later) l.rest l.end l.first;
}

abbrev pub decreases-loop-rest : goal.decreases-loop-rest
decreases-loop-rest l = l.rest
