use Rattle.std.proofs.Common.{drop}
use Rattle.sgt_appends.specs.Graphs.{AreWithin}
use Rattle.sgt_appends.proofs.sorting.are_within.Given as goal

abbrev pub invariant-loop-link : goal.invariant-loop-link
invariant-loop-link l = AreWithin (drop l.link-index l.links) l.nodes → AreWithin l.links l.nodes
