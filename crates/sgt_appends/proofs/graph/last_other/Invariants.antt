use Rattle.std.proofs.Common.{◌≤◌, length}
use Rattle.sgt_appends.specs.Indexes.{position_of}
use Rattle.sgt_appends.specs.Required.{AreOwnFrom}
use Rattle.sgt_appends.proofs.graph.last_other.Given as goal

abbrev pub invariant-loop-rest : goal.invariant-loop-rest
invariant-loop-rest l = record {
  within : l.rest ≤ length l.read.seen.now;
  own : AreOwnFrom (position_of l.appends) l.read.reader l.read.key l.read.seen.now l.rest;
}

abbrev pub decreases-loop-rest : goal.decreases-loop-rest
decreases-loop-rest l = l.rest
