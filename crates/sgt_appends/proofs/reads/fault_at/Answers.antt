use Rattle.sgt_appends.specs.Reads.{last_in}
use Rattle.sgt_appends.proofs.reads.fault_at.Goals as goal

pub returns-in_default-clause-fault : goal.returns-in_default-clause-fault
returns-in_default-clause-fault c = c.unwritten.ensures c.args.read.reader c.args.read.position (last_in c.args.last.now)
