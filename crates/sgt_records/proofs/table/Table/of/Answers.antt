use Rattle.std.proofs.Common.{rules, arith, ◌≡◌, suc, List, [], ◌∷◌, ◌++◌, length, map, take, get_or, w64, None, refl, ap, sym, ◌∙◌}
use mathlib.Core.List.{map-id}
use mir.Val.{to_z, of_z}
use Rattle.std.proofs.lemmas.Int.{to_z-of_z}
use Rattle.std.proofs.lemmas.Iterator.{items_from_drains}
use Rattle.std.proofs.lemmas.Iterator.Adapters.{YieldsList-from_vec}
use Rattle.std.proofs.lemmas.List.{take_all}
use Rattle.std.specs.BTreeMap.{get}
use Rattle.std.specs.Map.{update_all}
use Rattle.std.specs.Ordering.{eq_by_cmp}
use Rattle.std.specs.Vec.{vec_len}
use Rattle.sgt_model.specs.Contents.{Key}
use Rattle.sgt_model.specs.Databases.{Row, key_cmp}
use Rattle.sgt_records.specs.RowRecords.{record_with}
use Rattle.sgt_records.proofs.RowIndices.{map_next, places, places_next, row_key, row_record, rows_indices, rows_keys, rows_records}
use Rattle.sgt_records.proofs.table.Table.of.Goals.{In_ok-from_iter}
use Rattle.sgt_records.proofs.table.Table.of.Goals as goal

pub loop-index-preserved : goal.loop-index-preserved
loop-index-preserved c =
    let rows = c.args.rows.now in
    let i = c.loop-index.index in
    let row : Row = c.index-rows-index.result in
    let is : row ≡ get_or rows i row = c.index-rows-index.is in
    record {
      records = c.push_reserved.ensures.items ∙ ap (λ l. l ++ record_with (to_z w64 (of_z w64 row.1)) ∷ []) c.loop-index.invariant.records
          ∙ sym (map_next row_record rows i row _ c.loop-index-test.true is
          (ap record_with (to_z-of_z w64 row.1 (search rules))));
      keys = c.push_reserved-in-loop-index.ensures.items ∙ ap (λ l. l ++ row.0 ∷ []) c.loop-index.invariant.keys
          ∙ sym (map_next row_key rows i row row.0 c.loop-index-test.true is refl);
      listed = c.push_reserved-in-loop-index-2.ensures.items ∙ ap (λ l. l ++ (row.0, i) ∷ []) c.loop-index.invariant.listed
          ∙ sym (places_next rows i row c.loop-index-test.true is);
      capacity = search rules;
      capacity_for_keys = search rules;
      capacity_for_places = search rules;
      count = search rules;
      count_of_keys = search rules;
      count_of_places = search rules;
    }

whole : (c : In_ok-from_iter) → take c.loop-index.index c.args.rows.now ≡ c.args.rows.now
whole c = take_all c.loop-index.index c.args.rows.now (omega (arith, c.loop-index-test.false))

-- the indices are the places of the rows
returned : (c : In_ok-from_iter) (k : Key)
    → get key_cmp c.in_ok-from_iter.field-0 k ≡ update_all (eq_by_cmp key_cmp) (λ (_ : Key). None) (places 0 c.args.rows.now) k
returned c k =
    let ran = c.in_ok-from_iter.ensures.ran in
    let count : vec_len c.loop-index.places ≡ length c.loop-index.places.items = search rules in
    let drained : ran.1 ≡ c.loop-index.places.items = sym (map-id ran.1) ∙ items_from_drains ran.1 ran.3
    (YieldsList-from_vec c.loop-index.places.items ran.2.0 (ran.2.1 ∙ count)) in
    ran.4.0 k ∙ ap (λ l. update_all (eq_by_cmp key_cmp) (λ (_ : Key). None) l k)
    (drained ∙ c.loop-index.invariant.listed ∙ ap (places 0) (whole c))

pub invariant_of-result : goal.invariant_of-result
invariant_of-result c =
    let rows = c.args.rows.now in
    let at = (goal.at.invariant_of-result c).In_ok-from_iter in
    let records : c.loop-index.records.items ≡ map row_record rows = c.loop-index.invariant.records ∙ ap (map row_record) (whole at) in
    record {
      are_indices = rows_indices rows c.requires c.in_ok-from_iter.field-0 (returned at) c.loop-index.records.items records;
      are_keys = rows_keys rows c.requires c.in_ok-from_iter.field-0 (returned at) c.loop-index.keys.items (length c.loop-index.records.items)
          (c.loop-index.invariant.keys ∙ ap (map row_key) (whole at)) (ap length records ∙ length_map rows);
    }
  where
    length_map : (rows : List Row) → length (map row_record rows) ≡ length rows
    length_map [] = refl
    length_map (r ∷ rows) = ap suc (length_map rows)

pub returns : goal.returns
returns c k =
    let rows = c.args.rows.now in
    let at = (goal.at.returns c).In_ok-from_iter in
    rows_records rows c.requires c.in_ok-from_iter.field-0 (returned at) c.loop-index.records.items
    (c.loop-index.invariant.records ∙ ap (map row_record) (whole at)) k
