use Rattle.std.proofs.Common.{rules, ◌≡◌, ◌≤◌, Some, sym, ap, subst, length, arith}
use Rattle.std.specs.Prelude.{slice_get}
use Rattle.std.proofs.lemmas.Grind.{common_steps}
use Rattle.std.proofs.lemmas.Option.{gets}
use Rattle.sgt_appends.specs.Runs.{operations_or_none}
use Rattle.sgt_appends.proofs.Added.{own_next}
use Rattle.sgt_appends.proofs.Passed.{clean_more, clean_all}
use Rattle.sgt_appends.proofs.reads.fault_in.Goals as goal

pub loop-position-preserved : goal.loop-position-preserved
loop-position-preserved c =
    let there : slice_get c.args.history.now c.args.number ≡ Some c.in-Some.transaction.now =
    grind (arith, common_steps, gets, c.in-Some.ensures.lookup) in
    record {
      clean = clean_more c.args.history.now c.args.number c.loop-position.position c.loop-position.invariant.clean
          (c.in_ok-fault.ensures.clean (search rules));
      own = λ k. own_next c.args.history.now c.args.number k c.loop-position.position c.in-Some.transaction.now
          c.deref-operation-items.result.now c.operation-item.result _ _ there c.deref-operation-items.ensures.value (search rules)
          c.operation-item.is (c.loop-position.invariant.own k) (c.in_ok-note.ensures k);
    }

pub returns-clause-clean : goal.returns-clause-clean
returns-clause-clean c = λ none.
    let there : slice_get c.args.history.now c.args.number ≡ Some c.in-Some.transaction.now =
    grind (arith, common_steps, gets, c.in-Some.ensures.lookup) in
    clean_all c.args.history.now c.args.number c.loop-position.position c.loop-position.invariant.clean
    (subst (λ os. length os ≤ c.loop-position.position) (sym (ap operations_or_none there)) (search rules))
