use Rattle.std.proofs.Common.{sym, ap, ◌∙◌, ◌++◌}
use Rattle.std.proofs.lemmas.List.{take_rest}
use Rattle.sgt_format.proofs.plain_line.tid_after.Goals as goal

pub returns-clause-number : goal.returns-clause-number
returns-clause-number c =
    let gap = c.in_ok-at.ensures.item.0 in (
      gap,
      c.in_ok-at.ensures.item.1,
      c.in_ok-at.ensures.item.2
          ∙ ap (λ rest. c.args.words.now ++ (gap ++ rest)) (sym (take_rest c.args.line.now _) ∙ c.in_ok-t.ensures.number),
    )
