use Rattle.std.proofs.Common.{◌≡◌, ◌++◌, ℕ, true, nat_eq, sym, ap, ◌∙◌}
use Rattle.sgt_model.specs.AccessList.{ListedAccess, is_conflicting, is_listed, lists_conflicting}
use Rattle.sgt_access.specs.Masks.{AreRivalsAt}
use Rattle.sgt_access.proofs.Counts.{any_same}
use Rattle.sgt_access.proofs.Held.{first_stands}
use Rattle.sgt_access.proofs.per_key.PerKeyAccesses.rivals.Goals as goal

pub rivals_in_both-requires : goal.rivals_in_both-requires
rivals_in_both-requires c =
    record {
      few = record {
        among = c.requires.few.among;
        few = c.requires.few.few;
        all = λ t h. c.requires.few.all t (listed t h);
      };
    }
  where
    listed : (t : ℕ) → is_listed (c.as_slice-accesses.result.now ++ c.self.inside.lists) t ≡ true → is_listed c.args.self.now.0 t ≡ true
    listed t h = ap (λ v. is_listed v.0 t) (sym c.self.view_is)
        ∙ sym (any_same c.self.inside.whole (c.self.inside.accesses.items ++ c.self.inside.lists) c.self.invariant.stands (λ (a : ListedAccess). nat_eq a.by t))
        ∙ ap (λ xs. is_listed (xs ++ c.self.inside.lists) t) (sym c.as_slice-accesses.ensures.value) ∙ h

pub returns-in-Unknown-clause-exact : goal.returns-in-Unknown-clause-exact
returns-in-Unknown-clause-exact c = λ u. (
  λ m. let both = (c.rivals_in_both.ensures.exact u).0 m in (both.0, sym (same u) ∙ both.1),
  λ h. (c.rivals_in_both.ensures.exact u).1 (h.0, same u ∙ h.1),
)
  where
    same : (u : ℕ) → lists_conflicting (c.as_slice-accesses.result.now ++ c.self.inside.lists) u c.args.key c.args.kind
        ≡ lists_conflicting c.args.self.now.0 u c.args.key c.args.kind
    same u = ap (λ xs. lists_conflicting (xs ++ c.self.inside.lists) u c.args.key c.args.kind) c.as_slice-accesses.ensures.value
        ∙ any_same c.self.inside.whole (c.self.inside.accesses.items ++ c.self.inside.lists) c.self.invariant.stands (is_conflicting u c.args.key c.args.kind)
        ∙ ap (λ v. lists_conflicting v.0 u c.args.key c.args.kind) c.self.view_is

pub returns-in-At-clause-exact : goal.returns-in-At-clause-exact
returns-in-At-clause-exact c = λ u. (
  λ m. let rival = (said u).0 ((c.tids_at.ensures.members u).0 m) in (rival.0, sym (same u) ∙ rival.1),
  λ h. (c.tids_at.ensures.members u).1 ((said u).1 (h.0, same u ∙ h.1)),
)
  where
    same : (u : ℕ) → lists_conflicting c.self.inside.whole u c.args.key c.args.kind ≡ lists_conflicting c.args.self.now.0 u c.args.key c.args.kind
    same u = ap (λ v. lists_conflicting v.0 u c.args.key c.args.kind) c.self.view_is

    said : AreRivalsAt c.self.inside.whole c.self.inside.known.masks.places.tids c.args.t c.args.key c.args.kind c.in-At.places
    said = c.in-At.ensures c.self.inside.whole c.self.invariant.knows (λ some. rw c.as_slice-accesses.ensures.value
        (first_stands c.self.inside.whole c.self.inside.known.only c.self.inside.known.masks c.self.inside.accesses.items c.self.inside.lists
        c.self.invariant some))
