use Rattle.std.proofs.Common.{rules, refl, ◌≡◌, ◌↔◌, ◌++◌, ℕ, true, IsTrue, sym, ap, ◌∙◌}
use Rattle.sgt_model.specs.AccessList.{is_conflicting, lists_conflicting}
use Rattle.sgt_cycle.specs.Indices.{is_set}
use Rattle.sgt_access.specs.Masks.{AreRivalsAt}
use Rattle.sgt_access.proofs.Counts.{any_same}
use Rattle.sgt_access.proofs.Held.{first_stands}
use Rattle.sgt_access.proofs.per_key.PerKeyAccesses.has_rival.Goals as goal

pub returns-in-At : goal.returns-in-At
returns-in-At c = record {
  exact = (
    λ is. let (i, there) = some.0 is in
        let rival = (said _).0 (i, there, refl) in (_, rival.0, sym (same _) ∙ rival.1),
    λ h. let (u, other, conflict) = h in
        let (i, there, at) = (said u).1 (other, same u ∙ conflict) in some.1 (i, there),
  );
}
  where
    same : (u : ℕ) → lists_conflicting c.self.inside.whole u c.args.key c.args.kind ≡ lists_conflicting c.args.self.now.0 u c.args.key c.args.kind
    same u = ap (λ v. lists_conflicting v.0 u c.args.key c.args.kind) c.self.view_is

    said : AreRivalsAt c.self.inside.whole c.self.inside.known.masks.places.tids c.args.t c.args.key c.args.kind c.in-At.places
    said = c.in-At.ensures c.self.inside.whole c.self.invariant.knows (λ some. rw c.as_slice-accesses.ensures.value
        (first_stands c.self.inside.whole c.self.inside.known.only c.self.inside.known.masks c.self.inside.accesses.items c.self.inside.lists
        c.self.invariant some))

    some : IsTrue c.is_some.result ↔ ((i : ℕ) × (is_set c.in-At.places i ≡ true))
    some = search rules

pub returns-in-Unknown : goal.returns-in-Unknown
returns-in-Unknown c = record {
  exact = (
    λ is. let some = c.has_rival_in_both.ensures.exact.0 is in (some.0, some.1, sym (same some.0) ∙ some.2),
    λ some. c.has_rival_in_both.ensures.exact.1 (some.0, some.1, same some.0 ∙ some.2),
  );
}
  where
    same : (u : ℕ) → lists_conflicting (c.as_slice-accesses.result.now ++ c.self.inside.lists) u c.args.key c.args.kind
        ≡ lists_conflicting c.args.self.now.0 u c.args.key c.args.kind
    same u = ap (λ xs. lists_conflicting (xs ++ c.self.inside.lists) u c.args.key c.args.kind) c.as_slice-accesses.ensures.value
        ∙ any_same c.self.inside.whole (c.self.inside.accesses.items ++ c.self.inside.lists) c.self.invariant.stands (is_conflicting u c.args.key c.args.kind)
        ∙ ap (λ v. lists_conflicting v.0 u c.args.key c.args.kind) c.self.view_is
