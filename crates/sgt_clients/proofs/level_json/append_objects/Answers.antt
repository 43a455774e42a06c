use Rattle.sgt_clients.proofs.Stored.{on_ok}
use Rattle.sgt_check.proofs.Pieces.{grow}
use Rattle.sgt_clients.proofs.level_json.append_objects.Goals as goal

pub returns : goal.returns
returns c =
    let start = c.args.text.now.items in
    on_ok c.append_strict_object.result _ _ (λ strict.
    grow start c.append_next_object-3.new.text.items c.append_strict_object.new.text.items _ _
    (grow start c.append_next_object-2.new.text.items c.append_next_object-3.new.text.items _ _
    (grow start c.append_next_object.new.text.items c.append_next_object-2.new.text.items _ _
    (grow start c.append_object.new.text.items c.append_next_object.new.text.items _ _
    c.in_ok-append_object.ensures
    c.in_ok-append_next_object.ensures)
    c.in_ok-append_next_object-2.ensures)
    c.in_ok-append_next_object-3.ensures)
    strict)
    c.append_strict_object.ensures
