use Rattle.std.proofs.Common.{List, sym, subst}
use Rattle.sgt_records.specs.declared.write.Write.{Write}
use Rattle.sgt_records.specs.Pendings.{ArePending}
use Rattle.sgt_records.proofs.PendingWrites.{pending_kept}
use Rattle.sgt_records.proofs.list_records.ListRecordsRecords.reserve.Goals as goal

pub invariant_of-self : goal.invariant_of-self
invariant_of-self c =
    record {
      are_pending = subst (λ (l : List Write). ArePending c.args.self.now.committed.records l) (sym c.reserve.ensures.items)
          c.args.self.now.are_pending;
    }

pub invariant_of-self-2 : goal.invariant_of-self-2
invariant_of-self-2 c =
    record {
      are_pending = subst (λ (l : List Write). ArePending c.reserve-2.new.self.records l) (sym c.reserve.ensures.items)
          (pending_kept _ _ c.args.self.now.are_pending c.reserve-2.new.self.records c.reserve-2.ensures.kept);
    }
