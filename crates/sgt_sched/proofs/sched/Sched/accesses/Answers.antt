use Rattle.sgt_sched.proofs.Accessed.{rivals_few}
use Rattle.sgt_sched.proofs.sched.Sched.accesses.Goals as goal

pub returns-clause-few : goal.returns-clause-few
returns-clause-few g c = rivals_few c.args.self.now.kept
