use Rattle.sgt_appends.proofs.witness.is_in_order.Goals as goal

pub returns-in-Some : goal.returns-in-Some
returns-in-Some c = λ yes.
    let it = c.in-Some.it in
    (it.key, it.first, it.second, it.seen.now, c.in-Some.ensures.first, c.in-Some.ensures.second, c.in-Some.ensures.seen, c.stands_before.ensures yes)
