use Rattle.sgt_appends.proofs.Orders.{precedes_obeyed}
use Rattle.sgt_appends.proofs.laws.precedences_are_obeyed.Goals as goal

pub returns : goal.returns
returns c = precedes_obeyed
