use Rattle.std.proofs.Common.{◌≡◌, length}
use Rattle.sgt_appends.specs.Graphs.{AreChained}
use Rattle.sgt_appends.proofs.sorting.chain.Given as goal

abbrev pub invariant-loop-place : goal.invariant-loop-place
invariant-loop-place l = record {
  nodes : length l.heads ≡ length l.fn.heads;
  chained : AreChained l.links l.place l.heads l.before.items;
}
