use Rattle.sgt_classes.specs.Tables.{entry_of}
use Rattle.sgt_classes.specs.Sorting.{AreChains}
use Rattle.sgt_classes.specs.Links.{link_of}
use Rattle.sgt_classes.proofs.chains.EdgeChains.by_end.Given as goal

abbrev pub invariant-loop-place : goal.invariant-loop-place
invariant-loop-place l = AreChains l.end l.edges l.place (entry_of l.chains.tops) (link_of l.chains.below)
