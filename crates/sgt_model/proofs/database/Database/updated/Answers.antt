use Rattle.std.proofs.Common.{rules, ◌≡◌, ◌<◌, Some, length, slice_get, cond, w64, arith, ap, sym, subst, ◌∙◌}
use Rattle.std.proofs.lemmas.Int.{to_z-of_z}
use Rattle.sgt_model.specs.Numbers.{IsValue}
use Rattle.sgt_model.specs.Contents.{key_eq}
use Rattle.sgt_model.specs.Databases.{contents_of, IsByKey, HasValues}
use Rattle.sgt_model.proofs.Rows.{read_at}
use Rattle.sgt_model.proofs.Merges.{value_of_row, newer_more, older_more, apart_more}
use Rattle.sgt_model.proofs.database.Database.updated.Goals as goal

pub put-requires : goal.put-requires
put-requires c =
    let newer = c.args.newer.now in
    let within : c.loop-at.at_newer < length newer = search rules in
    let is : slice_get newer c.loop-at.at_newer ≡ Some c.index.result.now =
    read_at c.newer.inside.rows.items newer c.loop-at.at_newer c.index.result.now c.newer.view_is within c.index.ensures in
    let value = value_of_row newer c.loop-at.at_newer c.index.result.now (subst HasValues c.newer.view_is c.newer.invariant.1) is in
    subst IsValue (sym (to_z-of_z w64 c.index.result.now.1 (search rules))) value

pub put-requires-else-is_newer_next : goal.put-requires-else-is_newer_next
put-requires-else-is_newer_next c =
    let rows = c.args.self.now in
    let row = c.index-else-is_newer_next.result.now in
    let within : c.loop-at.at < length rows = search rules in
    let is : slice_get rows c.loop-at.at ≡ Some row =
    read_at c.self.inside.rows.items rows c.loop-at.at row c.self.view_is within c.index-else-is_newer_next.ensures in
    let value = value_of_row rows c.loop-at.at row (subst HasValues c.self.view_is c.self.invariant.1) is in
    subst IsValue (sym (to_z-of_z w64 row.1 (search rules))) value

pub loop-at-preserved-then-is_newer_next : goal.loop-at-preserved-then-is_newer_next
loop-at-preserved-then-is_newer_next c =
    let rows = c.args.self.now in
    let newer = c.args.newer.now in
    let row = c.index.result.now in
    let within : c.loop-at.at_newer < length newer = search rules in
    let is : slice_get newer c.loop-at.at_newer ≡ Some row =
    read_at c.newer.inside.rows.items newer c.loop-at.at_newer row c.newer.view_is within c.index.ensures in
    let by_key = subst IsByKey c.newer.view_is c.newer.invariant.0 in
    record {
      within = c.loop-at.invariant.within;
      within_newer = omega (arith, within);
      values = λ k. c.in_ok-put.ensures.put k
          ∙ (ap (λ v. cond (key_eq row.0 k) (Some v) (contents_of c.loop-at.both k)) (to_z-of_z w64 row.1 (search rules))
          ∙ (ap (λ o. cond (key_eq row.0 k) (Some row.1) o) (c.loop-at.invariant.values k)
          ∙ newer_more rows newer c.loop-at.at c.loop-at.at_newer row by_key is k));
      by_key = c.in_ok-put.ensures.by_key;
      apart = apart_more rows newer c.loop-at.at c.loop-at.at_newer row (subst IsByKey c.self.view_is c.self.invariant.0) by_key is
          (λ r at. c.is_newer_next.ensures.is_before c.if-is_newer_next.true row r
          (subst (λ l. slice_get l c.loop-at.at_newer ≡ Some row) (sym c.rows-in-loop-at.ensures.rows) is)
          (subst (λ l. slice_get l c.loop-at.at ≡ Some r) (sym c.rows.ensures.rows) at)) c.loop-at.invariant.apart;
    }

pub loop-at-preserved : goal.loop-at-preserved
loop-at-preserved c =
    let rows = c.args.self.now in
    let newer = c.args.newer.now in
    let row = c.index-else-is_newer_next.result.now in
    let within : c.loop-at.at < length rows = search rules in
    let is : slice_get rows c.loop-at.at ≡ Some row =
    read_at c.self.inside.rows.items rows c.loop-at.at row c.self.view_is within c.index-else-is_newer_next.ensures in
    record {
      within = omega (arith, within);
      within_newer = c.loop-at.invariant.within_newer;
      values = λ k. c.in_ok-put-2.ensures.put k
          ∙ (ap (λ v. cond (key_eq row.0 k) (Some v) (contents_of c.loop-at.both k)) (to_z-of_z w64 row.1 (search rules))
          ∙ (ap (λ o. cond (key_eq row.0 k) (Some row.1) o) (c.loop-at.invariant.values k)
          ∙ older_more rows newer c.loop-at.at c.loop-at.at_newer row (subst IsByKey c.self.view_is c.self.invariant.0) is
          (c.loop-at.invariant.apart c.loop-at.at row (omega arith) is) k));
      by_key = c.in_ok-put-2.ensures.by_key;
      apart = λ i r from at. c.loop-at.invariant.apart i r (omega (arith, from)) at;
    }
