use Rattle.std.proofs.Common.{◌≡◌, ℤ, refl, List, Option, IfSome, ap, sym, subst, ◌∙◌}
use Rattle.std.specs.Option.{option_and_then, option_map}
use Rattle.sgt_model.specs.Numbers.{IsValue}
use Rattle.sgt_model.specs.Contents.{Key}
use Rattle.sgt_model.specs.Databases.{Row, contents_of, HasValues}
use Rattle.sgt_records.specs.Slots.{committed_of, written_by}
use Rattle.sgt_records.specs.Tables.{record_in}
use Rattle.sgt_records.specs.RowRecords.{record_with}
use Rattle.sgt_records.specs.declared.record.Record.{Record}
use Rattle.sgt_records.specs.declared.table.Table.{Table}
use Rattle.sgt_records.specs.declared.written.Written.TheVariants.{Nothing}
use Rattle.sgt_records.proofs.ChainsKept.{chain_empty}
use Rattle.sgt_records.proofs.RecordSlots.{chains_none, index_none}
use Rattle.sgt_records.proofs.RowIndices.{row_committed, row_unwritten}
use Rattle.sgt_records.proofs.RowsRead.{rows_values}
use Rattle.sgt_records.proofs.index.Index.of.Goals as goal

-- the table of rows
module _ (rows seen : List Row) (same : seen ≡ rows) (table : Table)
    (returned : (k : Key) → record_in table k ≡ option_map record_with (contents_of seen k)) where
  none_written : (k : Key) → written_by (record_in table k) ≡ Nothing
  none_written k = ap written_by (returned k) ∙ row_unwritten (contents_of seen k)

  are_committed : (k : Key) → committed_of (record_in table) k ≡ contents_of rows k
  are_committed k = ap (option_and_then (λ (r : Record). r.committed)) (returned k) ∙ row_committed (contents_of seen k)
      ∙ ap (λ l. contents_of l k) same

pub invariant_of-result : goal.invariant_of-result
invariant_of-result c =
    let rows = c.args.opening.now in
    let table = c.in_ok-table.table in
    let seen = c.rows.result.now in
    record {
      is_index = index_none (record_in table) c.new.result (none_written rows seen c.rows.ensures.rows table c.in_ok-table.ensures)
          (λ k. subst (λ (o : Option ℤ). IfSome o IsValue)
          (sym (are_committed rows seen c.rows.ensures.rows table c.in_ok-table.ensures k))
          (rows_values rows (subst HasValues c.rows.ensures.rows c.rows.ensures.values) k))
          (λ k. chain_empty)
          (λ p. rw c.new.ensures.empty refl);
    }

pub returns-clause-chain : goal.returns-clause-chain
returns-clause-chain c =
    chains_none (record_in c.in_ok-table.table) c.new.result
    (none_written c.args.opening.now c.rows.result.now c.rows.ensures.rows c.in_ok-table.table c.in_ok-table.ensures)

pub returns-clause-settled : goal.returns-clause-settled
returns-clause-settled c = are_committed c.args.opening.now c.rows.result.now c.rows.ensures.rows c.in_ok-table.table c.in_ok-table.ensures
