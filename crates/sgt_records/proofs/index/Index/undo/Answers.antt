use Rattle.std.proofs.Common.{sym, subst}
use Rattle.sgt_model.specs.Chains.{chain_without}
use Rattle.sgt_records.specs.Tables.{record_in}
use Rattle.sgt_records.specs.Validity.{IsChain}
use Rattle.sgt_records.proofs.RecordSlots.{committed_is, index_put, chain_put, committed_same}
use Rattle.sgt_records.proofs.ChainsKept.{chain_left}
use Rattle.sgt_records.proofs.index.Index.undo.Goals as goal

pub invariant_of-self : goal.invariant_of-self
invariant_of-self c = record {
  is_index = index_put (record_in c.args.self.now.table) (record_in c.put.new.self) c.args.key _ c.put.ensures.put c.args.self.now.chains
      c.take_out-written.new.chains c.args.self.now.is_index c.at.result.now c.at.ensures c.take_out-written.ensures.moves
      (λ chain. subst IsChain (sym c.take_out-written.ensures.left) (chain_left c.args.t _ chain)) (λ chain value. value);
}

pub returns-clause-chain : goal.returns-clause-chain
returns-clause-chain c =
    chain_put (record_in c.args.self.now.table) (record_in c.put.new.self) c.args.key _ c.put.ensures.put c.args.self.now.chains
    c.take_out-written.new.chains c.args.self.now.is_index c.at.result.now c.at.ensures c.take_out-written.ensures.moves
    (chain_without c.args.t) c.take_out-written.ensures.left

pub returns-clause-settled : goal.returns-clause-settled
returns-clause-settled c =
    committed_same (record_in c.args.self.now.table) (record_in c.put.new.self) c.args.key _ c.put.ensures.put
    (sym (committed_is (record_in c.args.self.now.table) c.args.self.now.chains c.args.key c.at.result.now c.at.ensures c.args.self.now.is_index))
