use Rattle.std.proofs.Common.{◌≡◌, ℤ, Option, ◌<◌, false, length, ap, sym, subst, ◌∙◌}
use Rattle.sgt_model.specs.Chains.{write_last, writes_in}
use Rattle.sgt_records.specs.Slots.{chain_at}
use Rattle.sgt_records.specs.Tables.{record_in}
use Rattle.sgt_records.specs.Validity.{IsChain}
use Rattle.sgt_records.proofs.RecordSlots.{written_is, committed_is, index_put, chain_put, committed_same}
use Rattle.sgt_records.proofs.ChainsKept.{chain_written}
use Rattle.sgt_records.proofs.index.Index.write.Goals as goal

pub invariant_of-self : goal.invariant_of-self
invariant_of-self c =
    let records = record_in c.args.self.now.table in
    let chains = c.args.self.now.chains in
    let old = c.at.result.now in
    let was = written_is records chains c.args.key old c.at.ensures c.args.self.now.is_index in
    let last : chain_at c.write-written.new.chains c.write-written.result.0
    ≡ write_last c.args.t c.args.value (chain_at chains old.written) =
    c.write-written.ensures.last ∙ ap (λ (v : Option ℤ). write_last c.args.t v (chain_at chains old.written)) c.of.ensures in
    record {
      is_index = index_put records (record_in c.put.new.self) c.args.key _ c.put.ensures.put chains c.write-written.new.chains
          c.args.self.now.is_index old c.at.ensures c.write-written.ensures.moves
          (λ chain. subst IsChain (sym last) (chain_written c.args.t c.args.value _ chain c.requires.in_range
          (subst (λ l. writes_in c.args.t l ≡ false → length l < 32) (ap (chain_at chains) was) c.requires.capacity)))
          (λ chain value. value);
    }

pub returns-clause-chain : goal.returns-clause-chain
returns-clause-chain c =
    chain_put (record_in c.args.self.now.table) (record_in c.put.new.self) c.args.key _ c.put.ensures.put c.args.self.now.chains
    c.write-written.new.chains c.args.self.now.is_index c.at.result.now c.at.ensures c.write-written.ensures.moves
    (write_last c.args.t c.args.value)
    (c.write-written.ensures.last
    ∙ ap (λ (v : Option ℤ). write_last c.args.t v (chain_at c.args.self.now.chains c.at.result.now.written)) c.of.ensures)

pub returns-clause-settled : goal.returns-clause-settled
returns-clause-settled c =
    committed_same (record_in c.args.self.now.table) (record_in c.put.new.self) c.args.key _ c.put.ensures.put
    (sym (committed_is (record_in c.args.self.now.table) c.args.self.now.chains c.args.key c.at.result.now c.at.ensures c.args.self.now.is_index))
