use Rattle.std.proofs.Common.{◌+◌, None, refl, ◌∙◌, drop, take_all, length-drop, arith}
use Rattle.sgt_notation.proofs.Letters.{opens_at, after_letter}
use Rattle.sgt_notation.proofs.spelled.read_access.Goals as goal

pub returns-in_default-clause-none : goal.returns-in_default-clause-none
returns-in_default-clause-none c = λ none t x small item is.
    let found = opens_at c.args.rest.now x t small is None c.in_default.ensures in absurd (cc)

pub returns-in_default-read_number-clause-none : goal.returns-in_default-read_number-clause-none
returns-in_default-read_number-clause-none c = λ none t x small item is.
    let parts = after_letter c.args.rest.now x t c.in-Some.open small is c.in-Some.ensures in
    c.in_default-read_number.ensures.none refl t small parts.0

pub returns-in_default-read_item-clause-none : goal.returns-in_default-read_item-clause-none
returns-in_default-read_item-clause-none c = λ none t x small item is.
    let parts = after_letter c.args.rest.now x t c.in-Some.open small is c.in-Some.ensures in
    c.in_default-read_item.ensures.none refl x item (take_all _ (drop (c.in-Some.open + 1) c.args.rest.now)
    (omega (arith, length-drop (c.in-Some.open + 1) c.args.rest.now)) ∙ parts.1)
