use Rattle.std.proofs.Common.{sym, ap, subst, ◌∙◌}
use Rattle.sgt_access.specs.NumberLists.{joined, AreByNumber}
use Rattle.sgt_access.proofs.number_lists.NumberLists.grow.Goals as goal

pub invariant_of-self : goal.invariant_of-self
invariant_of-self c = subst (AreByNumber 0) (sym c.grow_all.ensures) c.self.invariant

pub returns : goal.returns
returns c = ap joined c.grow_all.ensures ∙ c.self.view_is
