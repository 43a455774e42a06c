use Rattle.std.proofs.Common.{rules, ◌≡◌, Some, ◌++◌, ◌∷◌, [], length, sym, ap, subst}
use Rattle.sgt_model.specs.AccessList.{ListedAccess}
use Rattle.sgt_access.specs.Masks.{Knows}
use Rattle.sgt_access.proofs.Held.{first_noted}
use Rattle.sgt_access.proofs.known.Known.add_of_another.Goals as goal

pub returns-then-is_empty-clause-known : goal.returns-then-is_empty-clause-known
returns-then-is_empty-clause-known c list start stands =
    let none : length c.args.others.now ≡ 0 = search rules in
    subst (λ t. Knows (Some t) c.args.self.now.masks (list ++ c.args.access ∷ [])) (sym (ap (λ (a : ListedAccess). a.by) c.access.view_is))
    (first_noted c.args.self.now.masks list c.args.others.now c.args.access none stands start)

pub returns-clause-known : goal.returns-clause-known
returns-clause-known c list start stands =
    subst (λ a. Knows c.add_with_others.new.self.only c.add_with_others.new.self.masks (list ++ a ∷ [])) c.access.view_is
    (c.add_with_others.ensures.known list start stands)
