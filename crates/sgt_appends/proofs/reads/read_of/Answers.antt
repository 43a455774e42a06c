use Rattle.std.proofs.Common.{rules, ◌≡◌, Some, sym, ap, ◌∙◌, arith}
use Rattle.std.specs.Prelude.{slice_get}
use Rattle.std.proofs.lemmas.Grind.{common_steps}
use Rattle.std.proofs.lemmas.Option.{gets}
use Rattle.sgt_appends.specs.Runs.{operations_or_none, operations_of}
use Rattle.sgt_appends.specs.declared.transaction.Operation.TheVariants.{Append, Read}
use Rattle.sgt_appends.proofs.Passed.{not_read}
use Rattle.sgt_appends.proofs.reads.read_of.Goals as goal

pub returns-in-Read-clause-some : goal.returns-in-Read-clause-some
returns-in-Read-clause-some c =
    let there : slice_get c.args.history.now c.args.reader ≡ Some c.in_ok-transaction.transaction.now =
    grind (arith, common_steps, gets, c.in_ok-transaction.ensures.lookup) in
    let at : slice_get c.in_ok-transaction.transaction.now.operations.items c.args.position ≡ Some (Read c.in-Read.key c.in-Read.values) =
    grind (arith, common_steps, gets, c.in_ok-key.ensures.lookup, c.deref.ensures.value, c.in-Read.is) in (
      (c.in_ok-transaction.transaction.now, there, search rules),
      (c.in-Read.values, ap (λ os. slice_get os c.args.position) (ap operations_or_none there) ∙ at, sym c.as_slice.ensures.value),
    )

pub returns-in-Append-clause-none : goal.returns-in-Append-clause-none
returns-in-Append-clause-none c = λ none k seen committed is.
    let there : slice_get c.args.history.now c.args.reader ≡ Some c.in_ok-transaction.transaction.now =
    grind (arith, common_steps, gets, c.in_ok-transaction.ensures.lookup) in
    let at : slice_get c.in_ok-transaction.transaction.now.operations.items c.args.position ≡ Some (Append c.in-Append.key c.in-Append.value) =
    grind (arith, common_steps, gets, c.in_ok-key.ensures.lookup, c.deref.ensures.value, c.in-Append.is) in
    not_read (operations_of c.args.history.now c.args.reader) c.args.position c.in-Append.key c.in-Append.value k is.0
    (ap (λ os. slice_get os c.args.position) (ap operations_or_none there) ∙ at) is.1
