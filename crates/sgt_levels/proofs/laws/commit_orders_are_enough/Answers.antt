use Rattle.sgt_levels.proofs.Reading.{commit_orders}
use Rattle.sgt_levels.proofs.laws.commit_orders_are_enough.Goals as goal

pub returns : goal.returns
returns c = commit_orders
