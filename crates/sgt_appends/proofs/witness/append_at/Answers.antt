use Rattle.std.proofs.Common.{◌≡◌, Some, ap, ◌∙◌, arith}
use Rattle.std.specs.Prelude.{slice_get}
use Rattle.std.proofs.lemmas.Grind.{common_steps}
use Rattle.std.proofs.lemmas.Option.{gets}
use Rattle.sgt_appends.specs.Runs.{operations_or_none}
use Rattle.sgt_appends.specs.declared.transaction.Operation.TheVariants.{Append}
use Rattle.sgt_appends.proofs.Spots.{appends_at}
use Rattle.sgt_appends.proofs.witness.append_at.Goals as goal

pub returns-in-Append-clause-appends : goal.returns-in-Append-clause-appends
returns-in-Append-clause-appends c =
    appends_at c.args.history.now c.args.transaction c.args.place c.in-Append.key c.in-Append.value c.in_ok-transaction.transaction.now
    (grind (arith, common_steps, gets, c.in_ok-transaction.ensures.lookup))
    (grind (arith, common_steps, gets, c.in_ok-key.ensures.lookup, c.deref.ensures.value, c.in-Append.is))

pub returns-in-Append-clause-at : goal.returns-in-Append-clause-at
returns-in-Append-clause-at c =
    let there : slice_get c.args.history.now c.args.transaction ≡ Some c.in_ok-transaction.transaction.now =
    grind (arith, common_steps, gets, c.in_ok-transaction.ensures.lookup) in
    let at : slice_get c.in_ok-transaction.transaction.now.operations.items c.args.place ≡ Some (Append c.in-Append.key c.in-Append.value) =
    grind (arith, common_steps, gets, c.in_ok-key.ensures.lookup, c.deref.ensures.value, c.in-Append.is) in
    ap (λ os. slice_get os c.args.place) (ap operations_or_none there) ∙ at
