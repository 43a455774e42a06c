use Rattle.std.proofs.Common.{rules, ◌≡◌, [], length, sym, subst}
use Rattle.std.proofs.lemmas.List.{nil_from_length}
use Rattle.sgt_access.specs.Masks.{Holds}
use Rattle.sgt_access.proofs.Held.{held_none}
use Rattle.sgt_access.proofs.known.prepare.Goals as goal

pub returns : goal.returns
returns c list held =
    let short : length c.args.accesses.now ≡ 0 = search rules in
    let none = nil_from_length c.args.accesses.now short in
    let also : c.args.lists.now ≡ [] = search rules in
    subst (λ o. Holds list o c.begin.new.known.masks c.args.accesses.now c.begin.new.lists) (sym c.begin.ensures.only)
    (held_none list c.args.known.now.only c.args.known.now.masks c.begin.new.known.masks c.args.accesses.now c.args.lists.now
    c.args.accesses.now c.begin.new.lists none also none c.begin.ensures.lists c.begin.ensures.covers held)
