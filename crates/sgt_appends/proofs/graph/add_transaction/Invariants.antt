use Rattle.sgt_appends.specs.Indexes.{position_of}
use Rattle.sgt_appends.specs.Lines.{line_in, keys_in}
use Rattle.sgt_appends.specs.Required.{AreLinked, reads_in, AreLongLinked}
use Rattle.sgt_appends.proofs.graph.add_transaction.Given as goal

abbrev pub invariant-loop-position : goal.invariant-loop-position
invariant-loop-position l = record {
  linked : AreLinked l.clean.history.now (position_of l.clean.appends.now) (line_in l.clean.lines.now) (keys_in l.clean.lines.now) l.links.items l.number l.position;
  longest : AreLongLinked l.clean.history.now (position_of l.clean.appends.now) l.links.items (reads_in l.longest);
}
