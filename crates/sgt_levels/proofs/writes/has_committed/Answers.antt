use Rattle.std.proofs.Common.{◌≡◌, Some, None, arith}
use Rattle.std.specs.Prelude.{slice_get}
use Rattle.std.proofs.lemmas.Grind.{common_steps}
use Rattle.std.proofs.lemmas.Option.{gets}
use Rattle.sgt_levels.proofs.WriteOrders.{same_status, none_there}
use Rattle.sgt_levels.proofs.writes.has_committed.Goals as goal

pub returns-in-Some-clause-yes : goal.returns-in-Some-clause-yes
returns-in-Some-clause-yes c = λ yes.
    let there : slice_get c.args.history.now c.args.number ≡ Some c.in-Some.transaction.now =
    grind (arith, common_steps, gets, c.in-Some.ensures.lookup) in
    (c.in-Some.transaction.now, there, c.is_committed.ensures.yes yes)

pub returns-in-Some-clause-no : goal.returns-in-Some-clause-no
returns-in-Some-clause-no c = λ not ended.
    let there : slice_get c.args.history.now c.args.number ≡ Some c.in-Some.transaction.now =
    grind (arith, common_steps, gets, c.in-Some.ensures.lookup) in
    c.is_committed.ensures.no not
    (same_status (slice_get c.args.history.now c.args.number) ended.0 c.in-Some.transaction.now ended.1 there ended.2)

pub returns-in-None-clause-no : goal.returns-in-None-clause-no
returns-in-None-clause-no c = λ not ended.
    let none : slice_get c.args.history.now c.args.number ≡ None = grind (arith, common_steps, gets, c.get.ensures) in
    none_there (slice_get c.args.history.now c.args.number) ended.0 none ended.1
