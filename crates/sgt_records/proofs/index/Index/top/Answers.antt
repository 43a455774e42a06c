use Rattle.std.proofs.Common.{rules, ◌≡◌, IfSome, Some, sym, subst}
use Rattle.sgt_model.specs.Numbers.{IsValue}
use Rattle.sgt_records.specs.declared.top.Top.{Top}
use Rattle.sgt_records.specs.Tops.{value_of_top}
use Rattle.sgt_records.specs.Tables.{record_in}
use Rattle.sgt_records.proofs.RecordSlots.{chain_there, value_there}
use Rattle.sgt_records.proofs.ChainsKept.{top_value}
use Rattle.sgt_records.proofs.index.Index.top.Goals as goal

pub returns-in-Some-clause-in_range : goal.returns-in-Some-clause-in_range
returns-in-Some-clause-in_range c =
    let records = record_in c.args.self.now.table in
    let chains = c.args.self.now.chains in
    let record_is : records c.args.key ≡ Some c.in-Some.record.now = search rules in
    subst (λ (found : Top). IfSome (value_of_top found) IsValue) (sym c.top.ensures)
    (top_value _ _ (chain_there records chains c.args.key c.in-Some.record.now record_is c.args.self.now.is_index)
    (value_there records chains c.args.key c.in-Some.record.now record_is c.args.self.now.is_index))
