use Rattle.sgt_appends.specs.Indexes.{position_of}
use Rattle.sgt_appends.specs.Required.{AreLinkedSoFar}
use Rattle.sgt_appends.proofs.graph.add_from.Given as goal

abbrev pub invariant-loop-at : goal.invariant-loop-at
invariant-loop-at l =
    AreLinkedSoFar (position_of l.appends) l.fn.links.items l.links.items l.read.reader l.read.position l.read.key l.read.seen.now l.at
    l.before
