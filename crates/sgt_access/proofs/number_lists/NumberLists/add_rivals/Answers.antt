use Rattle.std.proofs.Common.{ap, subst, ◌∙◌}
use Rattle.sgt_access.specs.NumberLists.{contents, joined}
use Rattle.sgt_access.proofs.Rivals.{AddRivals}
use Rattle.sgt_access.proofs.number_lists.NumberLists.add_rivals.Goals as goal

pub returns-clause-exact : goal.returns-clause-exact
returns-clause-exact c = subst
    (λ list. AddRivals c.args.t c.args.key c.args.kind list c.args.rivals.now.items c.add_rivals_in.new.rivals.items)
    (ap (λ lists. joined (contents lists)) c.as_slice.ensures.value ∙ c.self.view_is) c.add_rivals_in.ensures.exact
