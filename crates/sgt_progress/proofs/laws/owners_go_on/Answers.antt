use Rattle.sgt_progress.proofs.Owners.{owners_go_on, two_each_may_not}
use Rattle.sgt_progress.proofs.laws.owners_go_on.Goals as goal

pub returns : goal.returns
returns c = record { one = owners_go_on; two = two_each_may_not }
