use Rattle.std.proofs.Common.{rules, ◌≡◌, Some, None, IsSome, ◌++◌, ◌∷◌, [], refl, sym, subst}
use Rattle.sgt_access.specs.Masks.{Knows}
use Rattle.sgt_access.proofs.known.Known.add.Goals as goal

pub returns-else-eq-clause-known : goal.returns-else-eq-clause-known
returns-else-eq-clause-known c list knows stands =
    let is : c.args.self.now.only ≡ Some c.in-Some.only = search rules in
    c.add_of_another.ensures.known list (subst (λ o. Knows o c.args.self.now.masks list) is knows).1 (stands (subst IsSome (sym is) refl))

pub returns-in-None-clause-known : goal.returns-in-None-clause-known
returns-in-None-clause-known c list knows stands =
    let is : c.args.self.now.only ≡ None = search rules in
    subst (λ o. Knows o c.add.new.self (list ++ c.args.access ∷ [])) (sym is)
    (c.add.ensures list (subst (λ o. Knows o c.args.self.now.masks list) is knows))
