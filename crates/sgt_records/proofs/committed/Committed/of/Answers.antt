use Rattle.std.proofs.Common.{rules, ◌≡◌, ℤ, Option, IfSome, Some, slice_get, w64, refl, ap, sym, subst, ◌∙◌, cond}
use Rattle.std.proofs.lemmas.Int.{to_z-of_z}
use Rattle.std.proofs.lemmas.List.{take_all}
use Rattle.std.proofs.lemmas.Option.{slice_get_read}
use Rattle.sgt_model.specs.Numbers.{IsValue}
use Rattle.sgt_model.specs.Contents.{key_eq, put_in}
use Rattle.sgt_model.specs.Databases.{Row, contents_of, IsByKey, HasValues}
use Rattle.sgt_records.specs.Settleds.{settled_in}
use Rattle.sgt_model.proofs.Merges.{row_more}
use Rattle.sgt_records.proofs.RowsRead.{rows_values}
use Rattle.sgt_records.proofs.SettledValues.{value_put}
use Rattle.sgt_records.proofs.committed.Committed.of.Goals as goal

pub loop-key-preserved : goal.loop-key-preserved
loop-key-preserved c k =
    let row : Row = c.loop-key-item.result in
    let rows = c.args.opening.now in
    let at : slice_get rows c.loop-key.key-index ≡ Some row = rw (← c.rows-key-items.ensures.rows)
    (slice_get_read c.rows-key-items.result.now _ c.loop-key.key-index row refl c.loop-key-test.true c.loop-key-item.is) in
    value_put c.loop-key.records c.insert.new.self row.0 _ c.in_ok-insert.ensures.updates k
    ∙ (ap (λ (v : ℤ). put_in (settled_in c.loop-key.records) row.0 v k) (to_z-of_z w64 row.1 (search rules))
    ∙ (ap (λ o. cond (key_eq row.0 k) (Some row.1) o) (c.loop-key.invariant k)
    ∙ sym (row_more rows c.loop-key.key-index row (subst IsByKey c.rows-key-items.ensures.rows c.rows-key-items.ensures.by_key) at k)))

pub invariant_of-result : goal.invariant_of-result
invariant_of-result c =
    let rows = c.args.opening.now in
    let whole = take_all c.loop-key.key-index rows (rw (← c.rows-key-items.ensures.rows) c.loop-key-test.false) in
    record {
      in_range = λ k. subst (λ (o : Option ℤ). IfSome o IsValue)
          (ap (λ l. contents_of l k) (sym whole) ∙ sym (c.loop-key.invariant k))
          (rows_values rows (subst HasValues c.rows-key-items.ensures.rows c.rows-key-items.ensures.values) k);
    }
