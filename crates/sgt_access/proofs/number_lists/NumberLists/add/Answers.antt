use Rattle.std.proofs.Common.{rules, ◌≡◌, true, sym, ap, subst, ◌∙◌, inl, inr, ◌++◌, ◌∷◌, [], get_or, set}
use Rattle.std.proofs.lemmas.Bool.{cases_Bool}
use Rattle.sgt_access.specs.Masks.{StandsFor}
use Rattle.sgt_access.specs.NumberLists.{contents, joined, AreByNumber}
use Rattle.sgt_access.proofs.NumberLists.{by_number_pushed, stands_pushed}
use Rattle.sgt_access.proofs.number_lists.NumberLists.add.Goals as goal

pub invariant_of-self : goal.invariant_of-self
invariant_of-self c = elim (cases_Bool c.push_at.result) [
  | inl did ↦ subst (AreByNumber 0) (sym (c.push_at.ensures.pushed did))
      (by_number_pushed (contents c.self.inside.lists.items) c.list_of.result c.args.access (c.push_at.ensures.within did) (search rules) c.self.invariant)
  | inr unfit ↦ subst (AreByNumber 0) (sym (c.push_at.ensures.full unfit)) c.self.invariant
]

pub returns-clause-added : goal.returns-clause-added
returns-clause-added c did =
    let rows = contents c.self.inside.lists.items in
    let at = c.list_of.result in
    let new = joined (set rows at (get_or rows at [] ++ c.args.access ∷ [])) in
    subst (StandsFor (c.args.self.now ++ c.args.access ∷ [])) (ap joined (sym (c.push_at.ensures.pushed did)))
    (subst (λ list. StandsFor (list ++ c.args.access ∷ []) new) c.self.view_is
    (stands_pushed rows at c.args.access (c.push_at.ensures.within did)))

pub returns-clause-full : goal.returns-clause-full
returns-clause-full c unfit = ap joined (c.push_at.ensures.full unfit) ∙ c.self.view_is
