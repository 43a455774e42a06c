use Rattle.sgt_format.proofs.WrittenRecords.{written_records_are_read}
use Rattle.sgt_format.proofs.laws.written_records_are_read.Goals as goal

pub returns : goal.returns
returns c = written_records_are_read
