use Rattle.sgt_sched.proofs.Found.{index_node, index_unended}
use Rattle.sgt_sched.proofs.sched.Sched.index.Goals as goal

pub returns-clause-live : goal.returns-clause-live
returns-clause-live g c = index_node c.args.self.now.kept c.args.t c.index.result c.index.ensures

pub returns-clause-unended : goal.returns-clause-unended
returns-clause-unended g c = index_unended c.args.self.now.kept c.args.t c.index.result c.index.ensures
