use Rattle.std.proofs.Common.{List, subst, sym, ◌∙◌}
use Rattle.sgt_appends.specs.declared.transaction.Transaction.{Transaction}
use Rattle.sgt_levels.specs.Answers.{IsSnapshotRight}
use Rattle.sgt_levels.specs.Commits.{IsCommittedRun}
use Rattle.sgt_levels.proofs.Order.{snapshot_committed}
use Rattle.sgt_levels.proofs.levels.order_of.Goals as goal

pub returns-in_ok-from_slice-in-Run : goal.returns-in_ok-from_slice-in-Run
returns-in_ok-from_slice-in-Run c = λ h right.
    let it = (subst (λ x. IsSnapshotRight h x) c.in-Run.is right).0 in
    subst (λ xs. IsCommittedRun h xs) (sym (c.in_ok-from_slice-in-Run.ensures.items ∙ c.as_slice.ensures.value)) (snapshot_committed h _ it.0 it.1 it.2)
