use Rattle.std.proofs.Common.{rules, ◌≡◌, ◌≤◌, Some, refl, sym, ap, ◌∙◌, subst, length, arith}
use Rattle.std.specs.Prelude.{slice_get}
use Rattle.std.proofs.lemmas.Grind.{common_steps}
use Rattle.std.proofs.lemmas.Option.{gets}
use Rattle.sgt_appends.specs.declared.transaction.Operation.TheVariants.{Append, Read}
use Rattle.sgt_appends.specs.Runs.{operations_or_none, operations_of}
use Rattle.sgt_appends.proofs.Chosen.{unread_more, unread_in}
use Rattle.sgt_appends.proofs.Passed.{not_read}
use Rattle.sgt_appends.proofs.premises.unknown_read_in.Goals as goal

pub returns-in-Read-clause-some : goal.returns-in-Read-clause-some
returns-in-Read-clause-some c =
    let there : slice_get c.args.history.now c.args.number ≡ Some c.in_ok-transaction.transaction.now =
    grind (arith, common_steps, gets, c.in_ok-transaction.ensures.lookup) in
    let at : slice_get c.in_ok-transaction.transaction.now.operations.items c.loop-position.position ≡
    Some (Read c.in-Read.key c.in-Read.values) =
    grind (
      arith,
      common_steps,
      gets,
      c.operation-item.is,
      c.deref-operation-items.ensures.value,
      c.in-Read.is,
      c.loop-position-test.true,
    ) in (
      c.in-Read.key,
      c.in-Read.values.items,
      (c.in_ok-transaction.transaction.now, there, search rules),
      (c.in-Read.values, ap (λ os. slice_get os c.loop-position.position) (ap operations_or_none there) ∙ at, refl),
    )

pub loop-position-preserved : goal.loop-position-preserved
loop-position-preserved c =
    let there : slice_get c.args.history.now c.args.number ≡ Some c.in_ok-transaction.transaction.now =
    grind (arith, common_steps, gets, c.in_ok-transaction.ensures.lookup) in
    let at : slice_get c.in_ok-transaction.transaction.now.operations.items c.loop-position.position ≡
    Some (Append c.in-Append.key c.in-Append.value) =
    grind (
      arith,
      common_steps,
      gets,
      c.operation-item.is,
      c.deref-operation-items.ensures.value,
      c.in-Append.is,
      c.loop-position-test.true,
    ) in
    unread_more c.args.history.now c.args.number c.loop-position.position c.loop-position.invariant
    (λ k seen is. not_read (operations_of c.args.history.now c.args.number) c.loop-position.position c.in-Append.key
    c.in-Append.value k is.0
    (ap (λ os. slice_get os c.loop-position.position) (ap operations_or_none there) ∙ at) is.1)

pub returns-clause-none : goal.returns-clause-none
returns-clause-none c = λ none.
    let there : slice_get c.args.history.now c.args.number ≡ Some c.in_ok-transaction.transaction.now =
    grind (arith, common_steps, gets, c.in_ok-transaction.ensures.lookup) in
    unread_in c.args.history.now c.args.number c.loop-position.position c.loop-position.invariant
    (subst (λ os. length os ≤ c.loop-position.position) (sym (ap operations_or_none there)) (search rules))
