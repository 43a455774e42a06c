use Rattle.sgt_records.specs.Tables.{record_in}
use Rattle.sgt_records.proofs.RecordSlots.{index_dropped}
use Rattle.sgt_records.proofs.index.Index.forget.Goals as goal

pub invariant_of-self : goal.invariant_of-self
invariant_of-self c =
    let records = record_in c.args.self.now.table in
    record {
      is_index = index_dropped records (record_in c.remove.new.self) c.args.self.now.chains c.args.key c.at.result.now c.at.ensures
          (c.is_empty.ensures.written c.if-is_empty.true) (c.is_empty.ensures.committed c.if-is_empty.true) c.remove.ensures
          c.args.self.now.is_index;
    }
