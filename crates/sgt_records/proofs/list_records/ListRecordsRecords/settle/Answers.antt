use Rattle.sgt_records.proofs.PendingWrites.{pending_kept}
use Rattle.sgt_records.proofs.list_records.ListRecordsRecords.settle.Goals as goal

pub invariant_of-self : goal.invariant_of-self
invariant_of-self c = record { are_pending = pending_kept _ _ c.args.self.now.are_pending c.settle.new.self.records c.settle.ensures.kept }
