use Rattle.std.proofs.Common.{◌++◌, ◌∙◌, ap}
use Rattle.sgt_clients.specs.Levels.{strongest_of, is_at_least}
use Rattle.sgt_clients.specs.LevelText.{strongest_text, next_text}
use Rattle.sgt_clients.proofs.Stored.{on_ok}
use Rattle.sgt_check.proofs.Pieces.{grow}
use Rattle.sgt_clients.proofs.level_text.append_levels.Goals as goal

pub returns : goal.returns
returns c =
    let start = c.args.text.now.items in
    let saw = c.args.clients.now in
    let f = c.args.found.now in
    let level = strongest_of c.args.strict f in
    let found = c.strongest-strongest.result in
    on_ok c.append_next.result _ _ (λ next.
    grow start c.append_strongest.new.text.items c.append_next.new.text.items (strongest_text (is_at_least f level) level)
    (next_text saw f level)
    (c.in_ok-append_strongest.ensures ∙ ap (λ b. start ++ strongest_text b found) c.is_at_least.ensures
    ∙ ap (λ l. start ++ strongest_text (is_at_least f l) l) c.strongest-strongest.ensures)
    (next ∙ ap (λ l. c.append_strongest.new.text.items ++ next_text saw f l) c.strongest-strongest.ensures))
    c.append_next.ensures
