use Rattle.std.proofs.Common.{subst}
use Rattle.sgt_access.proofs.Rivals.{AreRivals}
use Rattle.sgt_access.proofs.one_list.OneListAccesses.rivals.Goals as goal

pub returns-clause-exact : goal.returns-clause-exact
returns-clause-exact c = subst (λ list. AreRivals c.args.t c.args.key c.args.kind list c.rivals_among.result) c.as_slice.ensures.value
    c.rivals_among.ensures.exact
