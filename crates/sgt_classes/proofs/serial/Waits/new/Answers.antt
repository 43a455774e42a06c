use Rattle.std.proofs.Common.{rules, ◌+◌, sym, subst, arith}
use Rattle.std.specs.Prelude.{length}
use Rattle.std.specs.BTreeMap.{get}
use Rattle.std.specs.Ordering.{nat_cmp}
use Rattle.sgt_classes.specs.Tables.{entry_of}
use Rattle.sgt_classes.specs.declared.operation.Action.TheVariants.{Commit}
use Rattle.sgt_classes.specs.Links.{link_of}
use Rattle.sgt_classes.specs.Sorting.{AreChains}
use Rattle.sgt_classes.specs.declared.chains.EdgeEnd.TheVariants.{To}
use Rattle.sgt_classes.proofs.Places.{there, does_at}
use Rattle.sgt_classes.proofs.FirstWaits.{AreLookedAt, first_waits, first_wait, looked_at, passed_over, all_ready, all_watched}
use Rattle.sgt_classes.proofs.serial.Waits.new.Goals.{then-eq+in_ok-update, else-eq}
use Rattle.sgt_classes.proofs.serial.Waits.new.Goals as goal

pub loop-place-init : goal.loop-place-init
loop-place-init c =
    let tops = entry_of c.in_ok-incoming.incoming.tops in
    let below = link_of c.in_ok-incoming.incoming.below in record {
      waits = first_waits c.args.history.now c.args.edges.items (entry_of c.args.commits) tops below
          (get nat_cmp c.new-2.result) c.new.result c.requires.commits c.requires.edges
          (subst (λ es. AreChains To es (length es) tops below) c.as_slice.ensures.value c.in_ok-incoming.ensures)
          c.new.ensures.knows (search rules);
      ready = λ u d is less. absurd (omega (arith, less));
      watched = λ u d is less. absurd (omega (arith, less));
      wait = λ u k e top at. first_wait c.args.history.now (entry_of c.args.commits) e c.requires.commits (c.requires.edges k e at);
      edges_are = search rules;
      left_are = search rules;
    }

pub loop-place-preserved : goal.loop-place-preserved
loop-place-preserved c = elim c.if-eq.branch [
  | then-eq+in_ok-update w ↦ subst (λ v. AreLookedAt c.args.edges c.args.commits (c.loop-place.place + 1) v) (sym w.waits-is)
      (looked_at c.args.history.now c.args.edges c.args.commits c.loop-place.place _ c.loop-place.waits w.update.new.self
      c.requires.commits
      (does_at c.args.history.now c.loop-place.place _ Commit (there c.args.history.now c.loop-place.place c.loop-place-test.true)
      (search rules))
      c.loop-place.invariant w.in_ok-update.ensures.waits w.in_ok-update.ensures.edges w.in_ok-update.ensures.left
      w.in_ok-update.ensures.others w.in_ok-update.ensures.others_ready w.in_ok-update.ensures.kept
      w.in_ok-update.ensures.ready w.in_ok-update.ensures.watched w.in_ok-update.ensures.wait)
  | else-eq w ↦ subst (λ v. AreLookedAt c.args.edges c.args.commits (c.loop-place.place + 1) v) (sym w.waits-is)
      (passed_over c.args.history.now c.args.edges c.args.commits c.loop-place.place _ c.loop-place.waits c.requires.commits
      (there c.args.history.now c.loop-place.place c.loop-place-test.true) (search rules) c.loop-place.invariant)
]

pub returns-clause-watched : goal.returns-clause-watched
returns-clause-watched c = all_watched c.args.history.now c.args.edges c.args.commits c.loop-place.place c.loop-place.waits
    c.requires.commits (omega (arith, c.loop-place-test.false)) c.loop-place.invariant

pub returns-clause-waits : goal.returns-clause-waits
returns-clause-waits c = c.loop-place.invariant.waits

pub returns-clause-ready : goal.returns-clause-ready
returns-clause-ready c = all_ready c.args.history.now c.args.edges c.args.commits c.loop-place.place c.loop-place.waits
    c.requires.commits (omega (arith, c.loop-place-test.false)) c.loop-place.invariant

pub returns-clause-wait : goal.returns-clause-wait
returns-clause-wait c = c.loop-place.invariant.wait
