use Rattle.std.proofs.Common.{rules, sym, ap, ◌∙◌, ◌<◌, ◌≤◌, length, get_or}
use Rattle.sgt_proc.specs.Paths.{branch}
use Rattle.sgt_proc.proofs.PathTexts.{following_at, following_end}
use Rattle.sgt_proc.proofs.place.branch_at.Goals as goal

pub returns-then-at-list : goal.returns-then-at-list
returns-then-at-list c =
    let e : c.args.turn.at < length c.args.list.now = search rules in
    c.branch_of.ensures _ ∙ sym (ap (branch c.args.turn.held)
    (following_at c.args.list.now c.args.turn.at c.index-list-at.result e
    (c.index-list-at.is ∙ ap (λ n. get_or c.args.list.now n c.index-list-at.result) c.from-at.ensures)))

pub returns-else-at-list : goal.returns-else-at-list
returns-else-at-list c =
    let e : length c.args.list.now ≤ c.args.turn.at = search rules in
    sym (ap (branch c.args.turn.held) (following_end c.args.list.now c.args.turn.at e))
