use Rattle.std.proofs.Common.{rules, ◌≡◌, Some, length, ◌∙◌}
use Rattle.serde_json.specs.Find.{as_object}
use Rattle.serde_json.specs.View.{view, members_view}
use Rattle.sgt_format.proofs.Shapes.{count_members, parts_found}
use Rattle.sgt_format.proofs.sheet.parts.Goals as goal

pub returns : goal.returns
returns c =
    let object : Some (members_view c.in_ok-as_object.field-0.now.entries) ≡ as_object (view c.args.tree.now) = search rules in
    let entries : length c.in_ok-as_object.field-0.now.entries ≡ 3 = search rules in
    parts_found _ _ _ _ _ object (count_members _ ∙ entries) c.in_ok-limits.ensures c.in_ok-accounts.ensures c.in_ok-procedures.ensures
