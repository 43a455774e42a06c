use Rattle.std.proofs.Common.{rules, ◌∙◌, sym, ap, subst, Some, w64, length, ◌<◌}
use Rattle.std.proofs.lemmas.Int.{to_z-of_z}
use Rattle.std.proofs.lemmas.Option.{same_Some, slice_get_within}
use Rattle.sgt_model.specs.Databases.{Row, IsByKey}
use Rattle.sgt_model.proofs.Rows.{read_at, value_found, value_missing}
use Rattle.sgt_model.proofs.database.Database.get.Goals as goal

pub returns-in-Ok : goal.returns-in-Ok
returns-in-Ok c =
    let found = c.in-Ok.ensures in
    let within : c.in-Ok.at < length c.args.self.now = slice_get_within c.args.self.now c.in-Ok.at _ found.2 in
    let row = same_Some _ _
    (sym (read_at c.self.inside.rows.items c.args.self.now c.in-Ok.at c.index.result.now c.self.view_is within c.index.ensures)
    ∙ found.2) in
    ap (λ v. Some v) (to_z-of_z w64 c.index.result.now.1 (search rules) ∙ ap (λ (r : Row). r.1) row)
    ∙ value_found c.args.key c.args.self.now c.in-Ok.at found.1 (subst IsByKey c.self.view_is c.self.invariant.0) found.0 found.2

pub returns-in-Err : goal.returns-in-Err
returns-in-Err c = value_missing c.args.key c.args.self.now c.in-Err.field-0
    (subst IsByKey c.self.view_is c.self.invariant.0) c.in-Err.ensures.0 c.in-Err.ensures.1
