use Rattle.sgt_records.proofs.SettledValues.{value_in_range}
use Rattle.sgt_records.proofs.committed.Committed.get.Goals as goal

pub returns-in-Some-clause-in_range : goal.returns-in-Some-clause-in_range
returns-in-Some-clause-in_range c =
    value_in_range c.args.self.now.records c.args.key c.in-Some.value.now c.in-Some.ensures.value c.args.self.now.in_range
