use Rattle.std.proofs.Common.{rules, ◌∙◌, sym, refl}
use Rattle.sgt_classes.proofs.Places.{there, does_at}
use Rattle.sgt_classes.proofs.FirstAccesses.{firsts_noted, firsts_again, is_there}
use Rattle.sgt_classes.proofs.first_accesses.FirstAccesses.note.Goals as goal

pub returns-in_ok-put_on_top-clause-knows : goal.returns-in_ok-put_on_top-clause-knows
returns-in_ok-put_on_top-clause-knows c =
    let q = c.args.operations.now in
    let p = c.args.place in
    firsts_noted _ q p _ c.in-Some.item _ _ _ _ _ _ _ (does_at q p _ _ (there q p c.requires.within) refl) (search rules) (search rules)
    c.in_ok-set_pair.ensures.at c.in_ok-set_pair.ensures.others c.in_ok-put_on_top.ensures.top c.in_ok-put_on_top.ensures.other_tops
    c.in_ok-put_on_top.ensures.lower c.in_ok-put_on_top.ensures.others_below c.requires.knows

pub returns-else-is_first-clause-knows : goal.returns-else-is_first-clause-knows
returns-else-is_first-clause-knows c =
    let q = c.args.operations.now in
    let p = c.args.place in
    let some = is_there c.latest.result (search rules) in
    firsts_again _ q p _ c.in-Some.item some.0 _ _ _ _ _ (does_at q p _ _ (there q p c.requires.within) refl) (search rules)
    (sym c.latest.ensures ∙ some.1) c.in_ok-set_pair.ensures.at c.in_ok-set_pair.ensures.others c.requires.knows
