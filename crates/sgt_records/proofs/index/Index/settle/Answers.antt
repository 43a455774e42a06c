use Rattle.std.proofs.Common.{ℤ, Option, IfSome, ap, sym, subst, ◌∙◌}
use Rattle.std.specs.Option.{unwrap_or}
use Rattle.sgt_model.specs.Numbers.{IsValue}
use Rattle.sgt_model.specs.Chains.{chain_without}
use Rattle.sgt_records.specs.Tables.{record_in}
use Rattle.sgt_records.specs.Validity.{IsChain}
use Rattle.sgt_records.proofs.RecordSlots.{index_put, chain_put, committed_put}
use Rattle.sgt_records.proofs.ChainsKept.{chain_left, value_settled}
use Rattle.sgt_records.proofs.index.Index.settle.Goals as goal

pub invariant_of-self : goal.invariant_of-self
invariant_of-self c = record {
  is_index = index_put (record_in c.args.self.now.table) (record_in c.put.new.self) c.args.key _ c.put.ensures.put c.args.self.now.chains
      c.take_out-written.new.chains c.args.self.now.is_index c.at.result.now c.at.ensures c.take_out-written.ensures.moves
      (λ chain. subst IsChain (sym c.take_out-written.ensures.left) (chain_left c.args.t _ chain))
      (λ chain value. subst (λ (o : Option ℤ). IfSome o IsValue) (sym (c.unwrap_or-committed.ensures
      ∙ ap (λ (v : Option (Option ℤ)). unwrap_or v c.at.result.now.committed) c.take_out-written.ensures.value))
      (value_settled c.args.t _ _ chain.values value));
}

pub returns-clause-chain : goal.returns-clause-chain
returns-clause-chain c =
    chain_put (record_in c.args.self.now.table) (record_in c.put.new.self) c.args.key _ c.put.ensures.put c.args.self.now.chains
    c.take_out-written.new.chains c.args.self.now.is_index c.at.result.now c.at.ensures c.take_out-written.ensures.moves
    (chain_without c.args.t) c.take_out-written.ensures.left

pub returns-clause-settled : goal.returns-clause-settled
returns-clause-settled c =
    committed_put (record_in c.args.self.now.table) (record_in c.put.new.self) c.args.key _ c.put.ensures.put c.args.self.now.chains
    c.take_out-written.new.chains c.args.self.now.is_index c.at.result.now c.at.ensures c.take_out-written.ensures.moves c.args.t
    (c.unwrap_or-committed.ensures
    ∙ ap (λ (v : Option (Option ℤ)). unwrap_or v c.at.result.now.committed) c.take_out-written.ensures.value)
