use Rattle.std.proofs.Common.{[], sym, subst}
use Rattle.sgt_access.specs.NumberLists.{FitIn}
use Rattle.sgt_access.proofs.Rivals.{AddRivals, AreRivals, fit_first, fit_right, rivals_alone, rivals_beside}
use Rattle.sgt_access.proofs.number_lists.rivals_in_both.Goals as goal

pub add_rivals-requires-2-clause-few : goal.add_rivals-requires-2-clause-few
add_rivals-requires-2-clause-few c =
    fit_right c.args.t c.args.key c.args.kind [] c.add_rivals.new.rivals.items c.args.accesses.now c.args.lists.now
    (fit_first _ c.requires.few) (subst
    (λ first. AddRivals c.args.t c.args.key c.args.kind c.args.accesses.now first c.add_rivals.new.rivals.items) c.new-rivals.ensures
    c.add_rivals.ensures.exact)

pub returns-clause-exact : goal.returns-clause-exact
returns-clause-exact c = subst (AreRivals c.args.t c.args.key c.args.kind _) (sym c.tids_of.ensures)
    (rivals_alone c.args.t c.args.key c.args.kind _ _ (rivals_beside c.args.t c.args.key c.args.kind c.args.accesses.now c.args.lists.now []
    c.add_rivals.new.rivals.items c.add_rivals-2.new.rivals.items (subst
    (λ first. AddRivals c.args.t c.args.key c.args.kind c.args.accesses.now first c.add_rivals.new.rivals.items) c.new-rivals.ensures
    c.add_rivals.ensures.exact) c.add_rivals-2.ensures.exact))
