use Rattle.std.proofs.Common.{◌++◌, ◌∙◌, ap}
use Rattle.std.specs.Prelude.{codes}
use Rattle.sgt_clients.specs.Levels.{answer_of}
use Rattle.sgt_clients.specs.LevelJson.{holds_text, level_members}
use Rattle.sgt_check.proofs.Pieces.{grow}
use Rattle.sgt_clients.proofs.level_json.append_object.Goals as goal

pub returns : goal.returns
returns c =
    let start = c.args.text.now.items in
    let f = c.args.found.now in
    let level = c.args.level in
    let head = holds_text level (answer_of f level) in
    let members = level_members c.args.clients.now f level in
    grow start c.append_members.new.text.items c.extend_from_slice.new.self.items (head ++ members) (codes "}")
    (grow start c.append_holds.new.text.items c.append_members.new.text.items head members
    (c.in_ok-append_holds.ensures ∙ ap (λ a. start ++ holds_text level a) c.answer.ensures)
    c.in_ok-append_members.ensures)
    c.in_ok-extend_from_slice.ensures.items
