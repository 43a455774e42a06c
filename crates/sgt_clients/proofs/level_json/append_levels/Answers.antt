use Rattle.std.proofs.Common.{◌++◌, ◌∙◌, ap}
use Rattle.std.specs.Prelude.{codes}
use Rattle.sgt_clients.specs.Levels.{strongest_of, is_at_least}
use Rattle.sgt_clients.specs.LevelJson.{strongest_member, level_objects}
use Rattle.sgt_check.proofs.Pieces.{grow}
use Rattle.sgt_clients.proofs.level_json.append_levels.Goals as goal

pub returns : goal.returns
returns c =
    let start = c.args.text.now.items in
    let f = c.args.found.now in
    let level = strongest_of c.args.strict f in
    let found = c.strongest-strongest.result in
    let head = strongest_member (is_at_least f level) level in
    let objects = level_objects c.args.strict c.args.clients.now f in
    grow start c.append_objects.new.text.items c.extend_from_slice.new.self.items (head ++ objects) (codes "}")
    (grow start c.append_strongest.new.text.items c.append_objects.new.text.items head objects
    (c.in_ok-append_strongest.ensures ∙ ap (λ b. start ++ strongest_member b found) c.is_at_least.ensures
    ∙ ap (λ l. start ++ strongest_member (is_at_least f l) l) c.strongest-strongest.ensures)
    c.in_ok-append_objects.ensures)
    c.in_ok-extend_from_slice.ensures.items
