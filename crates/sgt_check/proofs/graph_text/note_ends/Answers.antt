use Rattle.std.proofs.Common.{◌∙◌}
use Rattle.sgt_check.proofs.Graphs.{ends_same}
use Rattle.sgt_check.proofs.graph_text.note_ends.Goals as goal

pub returns : goal.returns
returns c t u = c.in_ok-insert.ensures.updates.0 (t, u) ∙ ends_same c.args.edge.now.from c.args.edge.now.to t u _
