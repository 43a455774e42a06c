use Rattle.std.proofs.Common.{◌||◌, ◌==◌, ap, sym, ◌∙◌}
use Rattle.std.specs.Prelude.{slice_index_or}
use Rattle.sgt_classes.specs.declared.operation.Operation.{Operation}
use Rattle.sgt_classes.specs.declared.operation.Action.TheVariants.{Read}
use Rattle.sgt_check.specs.Reports.{commits, aborts}
use Rattle.sgt_check.proofs.Counting.{seen_one, first_one, count_one, few_one}
use Rattle.sgt_check.proofs.report.count.Goals as goal

pub loop-place-preserved : goal.loop-place-preserved
loop-place-preserved c =
    let h = c.args.history.now in
    let p = c.loop-place.place in
    let d : Operation = record { transaction = 0; action = Read 0 } in
    let old = c.loop-place.invariant in
    let noted = c.in_ok-is_first.ensures in
    let added = c.add.ensures in
    record {
      seen = λ t. noted.seen t ∙ ap (λ b. b || (slice_index_or h p d).transaction == t) (old.seen t)
          ∙ sym (seen_one h p d t c.loop-place-test.true);
      transactions = first_one h p d _ _ _ _ c.loop-place-test.true old.transactions (old.seen _) noted.first added.transactions;
      committed = count_one (λ op. commits op.action) h p d _ _ c.loop-place-test.true old.committed added.committed;
      aborted = count_one (λ op. aborts op.action) h p d _ _ c.loop-place-test.true old.aborted added.aborted;
      few = (
        few_one _ _ _ _ old.few.0 added.transactions,
        few_one _ _ _ _ old.few.1 added.committed,
        few_one _ _ _ _ old.few.2 added.aborted,
      );
    }
