use Rattle.std.proofs.Common.{arith}
use Rattle.sgt_appends.specs.Indexes.{position_of}
use Rattle.sgt_appends.specs.Lines.{line_in}
use Rattle.sgt_appends.proofs.Versions.{lines_indexed}
use Rattle.sgt_appends.proofs.proposal.ordered_graph.Goals as goal

pub links_of-requires : goal.links_of-requires
links_of-requires c = record {
  index = c.requires.index;
  clean = c.requires.clean;
  numbered = c.in_ok-lines.ensures.lines.numbered;
  indexed = lines_indexed c.args.history.now (position_of c.args.appends.now) (line_in c.in_ok-lines.lines) c.requires.index
      c.in_ok-lines.ensures.written;
  fits = omega (arith, c.in-Some.ensures.0, c.len.ensures);
}
