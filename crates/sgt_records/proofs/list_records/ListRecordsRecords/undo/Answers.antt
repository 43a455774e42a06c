use Rattle.std.proofs.Common.{rules, ◌≡◌, List, sym, subst, ap, ◌∙◌}
use Rattle.std.proofs.lemmas.Fn.{filter_same}
use Rattle.std.specs.List.{filter}
use Rattle.sgt_records.specs.declared.write.Write.{Write}
use Rattle.sgt_records.specs.Pendings.{chain_in, ArePending}
use Rattle.sgt_records.proofs.PendingWrites.{not_by, chain_left, pending_left}
use Rattle.sgt_records.proofs.list_records.ListRecordsRecords.undo.Goals as goal

pub invariant_of-self : goal.invariant_of-self
invariant_of-self c =
    let left : c.retain.new.self.items ≡ filter (not_by c.args.t) c.args.self.now.pending.items =
    filter_same _ (not_by c.args.t) _ (λ x b f call. search rules) _ _ c.retain.ensures.filtered in
    record {
      are_pending = subst (λ (l : List Write). ArePending c.args.self.now.committed.records l) (sym left)
          (pending_left _ _ c.args.self.now.are_pending c.args.t);
    }

pub returns-clause-chain : goal.returns-clause-chain
returns-clause-chain c k =
    let left : c.retain.new.self.items ≡ filter (not_by c.args.t) c.args.self.now.pending.items =
    filter_same _ (not_by c.args.t) _ (λ x b f call. search rules) _ _ c.retain.ensures.filtered in
    ap (λ l. chain_in l k) left ∙ chain_left c.args.t c.args.self.now.pending.items k
