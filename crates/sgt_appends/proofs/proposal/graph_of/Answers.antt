use Rattle.std.proofs.Common.{rules}
use Rattle.sgt_appends.proofs.proposal.graph_of.Goals as goal

pub ordered_graph-requires-clause-clean : goal.ordered_graph-requires-clause-clean
ordered_graph-requires-clause-clean c = c.in_ok-first_fault.ensures.clean (search rules)
