use Rattle.std.proofs.Common.{rules, ◌≡◌, [], length, refl, Some, None, IsSome, sym, subst}
use Rattle.sgt_access.specs.Masks.{Knows, AreRivalsAt, StandsFor}
use Rattle.sgt_access.proofs.Held.{stands_none}
use Rattle.sgt_access.proofs.Owned.{none_long, owned_rivals}
use Rattle.sgt_access.proofs.known.Known.rivals.Goals as goal

pub returns-then-eq : goal.returns-then-eq
returns-then-eq c list knows stands =
    let is : c.args.self.now.only ≡ Some c.in-Some.only = search rules in
    let same : c.in-Some.only ≡ c.args.t = search rules in
    let owned = subst (λ o. Knows o c.args.self.now.masks list) is knows in
    subst (λ t. AreRivalsAt list c.args.self.now.masks.places.tids t c.args.key c.args.kind 0) same
    (owned_rivals c.in-Some.only list owned.0 c.args.self.now.masks.places.tids c.args.key c.args.kind)

pub returns-then-is_empty : goal.returns-then-is_empty
returns-then-is_empty c list knows stands =
    let is : c.args.self.now.only ≡ Some c.in-Some.only = search rules in
    let none : length c.args.accesses.now ≡ 0 = search rules in
    let empty : list ≡ [] = stands_none list (subst (StandsFor list) (none_long c.args.accesses.now none) (stands (subst IsSome (sym is) refl))) in
    subst (λ l. AreRivalsAt l c.args.self.now.masks.places.tids c.args.t c.args.key c.args.kind 0) (sym empty)
    (owned_rivals c.args.t [] refl c.args.self.now.masks.places.tids c.args.key c.args.kind)

pub returns-in-None : goal.returns-in-None
returns-in-None c list knows stands =
    let is : c.args.self.now.only ≡ None = search rules in
    c.rivals.ensures list (subst (λ o. Knows o c.args.self.now.masks list) is knows)
