use Rattle.std.proofs.Common.{rules, ◌≡◌, ◌<◌, length, get_or, sym, subst}
use Rattle.std.proofs.lemmas.List.{take_all}
use Rattle.sgt_access.specs.NumberLists.{contents, joined}
use Rattle.sgt_access.proofs.NumberLists.{fit_there, joined_more}
use Rattle.sgt_access.proofs.Rivals.{AddRivals, rivals_beside}
use Rattle.sgt_access.proofs.number_lists.add_rivals_in.Goals as goal

pub add_rivals-requires : goal.add_rivals-requires
add_rivals-requires c = record {
  few = rw c.as_slice.ensures.value (fit_there c.args.t c.args.key c.args.kind c.args.lists.now c.loop-list.list-index c.list-item.result _ _
      c.loop-list-test.true c.list-item.is c.requires.few c.loop-list.invariant.exact);
  rising = c.loop-list.invariant.rising;
}

pub loop-list-preserved : goal.loop-list-preserved
loop-list-preserved c = record {
  exact = subst (λ list. AddRivals c.args.t c.args.key c.args.kind list c.args.rivals.now.items c.add_rivals.new.rivals.items)
      (sym (joined_more c.args.lists.now c.loop-list.list-index c.list-item.result c.loop-list-test.true c.list-item.is))
      (rivals_beside c.args.t c.args.key c.args.kind _ c.list-item.result.items _ _ _ c.loop-list.invariant.exact
      (subst (λ list. AddRivals c.args.t c.args.key c.args.kind list c.loop-list.rivals.items c.add_rivals.new.rivals.items)
      c.as_slice.ensures.value c.add_rivals.ensures.exact));
  rising = c.add_rivals.ensures.rising;
}

pub returns-clause-exact : goal.returns-clause-exact
returns-clause-exact c = subst
    (λ lists. AddRivals c.args.t c.args.key c.args.kind (joined (contents lists)) c.args.rivals.now.items c.loop-list.rivals.items)
    (take_all c.loop-list.list-index c.args.lists.now c.loop-list-test.false) c.loop-list.invariant.exact
