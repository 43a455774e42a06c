use Rattle.std.proofs.Common.{rules, List, sym, subst, ap, ◌∙◌}
use Rattle.std.proofs.lemmas.Fn.{filter_same}
use Rattle.sgt_records.specs.declared.write.Write.{Write}
use Rattle.sgt_records.specs.Pendings.{chain_in, ArePending}
use Rattle.sgt_records.proofs.PendingWrites.{not_this, after_write, chain_written, pending_written}
use Rattle.sgt_records.proofs.list_records.ListRecordsRecords.write.Goals as goal

pub invariant_of-self : goal.invariant_of-self
invariant_of-self c =
    let left = filter_same _ (not_this c.args.t c.args.key) _ (λ x b f call. search rules) _ _ c.retain.ensures.filtered in
    let after = after_write c.args.t c.args.key c.args.value c.args.self.now.pending.items _ _ left
    c.push_reserved.ensures.items in
    record {
      are_pending = subst (λ (l : List Write). ArePending c.args.self.now.committed.records l) (sym after)
          (pending_written _ _ c.args.self.now.are_pending c.args.t c.args.key c.args.value c.requires.ready.0 c.requires.in_range
          c.requires.capacity);
    }

pub returns-clause-chain : goal.returns-clause-chain
returns-clause-chain c k =
    let left = filter_same _ (not_this c.args.t c.args.key) _ (λ x b f call. search rules) _ _ c.retain.ensures.filtered in
    let after = after_write c.args.t c.args.key c.args.value c.args.self.now.pending.items _ _ left
    c.push_reserved.ensures.items in
    ap (λ l. chain_in l k) after ∙ chain_written c.args.t c.args.key c.args.value c.args.self.now.pending.items k
