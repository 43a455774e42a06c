use Rattle.std.proofs.Common.{sym, subst}
use Rattle.sgt_access.proofs.Rivals.{AddRivals, AreRivals, fit_first, rivals_alone}
use Rattle.sgt_access.proofs.conflicts.rivals_among.Goals as goal

pub add_rivals-requires : goal.add_rivals-requires
add_rivals-requires c = record {
  few = rw c.new-rivals.ensures (fit_first c.args.accesses.now c.requires.few);
  rising = rw c.new-rivals.ensures tt;
}

pub returns-clause-exact : goal.returns-clause-exact
returns-clause-exact c = subst (AreRivals c.args.t c.args.key c.args.kind c.args.accesses.now) (sym c.tids_of.ensures)
    (rivals_alone c.args.t c.args.key c.args.kind c.args.accesses.now _ (subst
    (λ first. AddRivals c.args.t c.args.key c.args.kind c.args.accesses.now first c.add_rivals.new.rivals.items) c.new-rivals.ensures
    c.add_rivals.ensures.exact))
