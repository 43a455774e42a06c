use Rattle.sgt_model.proofs.Continuations.{histories_go_on, settled_are_rows}
use Rattle.sgt_model.proofs.laws.histories_go_on.Goals as goal

pub returns : goal.returns
returns c = record {
  events = histories_go_on;
  rows = settled_are_rows;
}
