use Rattle.std.proofs.Common.{rules, ◌≡◌, Some, get_or, subst, ap, ◌∙◌, arith}
use Rattle.std.specs.Prelude.{slice_get}
use Rattle.std.proofs.lemmas.Grind.{common_steps}
use Rattle.std.proofs.lemmas.Option.{gets}
use Rattle.sgt_appends.specs.Runs.{nothing, SeesAll, after_all}
use Rattle.sgt_appends.specs.Tables.{stands}
use Rattle.sgt_appends.proofs.Same.{run_one}
use Rattle.sgt_appends.proofs.order.runs.Goals as goal

pub loop-number-preserved : goal.loop-number-preserved
loop-number-preserved c =
    let there : slice_get c.args.history.now (get_or c.args.order.now c.loop-number.number-index 0) ≡ Some c.in-Some.transaction.now =
    grind (arith, common_steps, gets, c.in-Some.ensures.lookup) in
    let are : c.as_slice.result.now ≡ c.in-Some.transaction.now.operations.items = c.as_slice.ensures.value in
    run_one c.args.history.now c.args.order.now c.loop-number.number-index c.in-Some.transaction.now (stands c.loop-number.contents)
    (stands c.run.new.self) nothing (search rules) there
    (subst (λ os. SeesAll os (stands c.loop-number.contents)) are (c.in_ok-run.ensures.sees c.if-not-branch.false))
    (λ k. c.in_ok-run.ensures.after c.if-not-branch.false k ∙ ap (λ os. after_all os (stands c.loop-number.contents) k) are)
    c.loop-number.invariant
