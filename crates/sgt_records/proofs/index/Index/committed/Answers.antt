use Rattle.std.proofs.Common.{rules}
use Rattle.sgt_records.specs.Tables.{record_in}
use Rattle.sgt_records.proofs.RecordSlots.{value_there}
use Rattle.sgt_records.proofs.index.Index.committed.Goals as goal

pub returns-in-Some-clause-in_range : goal.returns-in-Some-clause-in_range
returns-in-Some-clause-in_range c =
    value_there (record_in c.args.self.now.table) c.args.self.now.chains c.args.key c.in-Some.record.now
    (search rules) c.args.self.now.is_index
