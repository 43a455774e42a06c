use Rattle.sgt_appends.specs.Indexes.{position_of}
use Rattle.sgt_appends.specs.Lines.{line_in, keys_in}
use Rattle.sgt_appends.specs.Required.{AreLinked, reads_in, AreLongLinked}
use Rattle.sgt_appends.proofs.graph.links_of.Given as goal

abbrev pub invariant-loop-number : goal.invariant-loop-number
invariant-loop-number l = record {
  linked : AreLinked l.history (position_of l.appends) (line_in l.lines) (keys_in l.lines) l.links.items l.number 0;
  longest : AreLongLinked l.history (position_of l.appends) l.links.items (reads_in l.longest);
}
