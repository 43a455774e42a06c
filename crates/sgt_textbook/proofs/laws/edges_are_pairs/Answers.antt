use Rattle.sgt_textbook.proofs.Edges.{edges_are_pairs}
use Rattle.sgt_textbook.proofs.laws.edges_are_pairs.Goals as goal

pub returns : goal.returns
returns c = edges_are_pairs
