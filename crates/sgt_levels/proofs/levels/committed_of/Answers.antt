use Rattle.std.proofs.Common.{List, IfSome, subst}
use Rattle.sgt_appends.specs.declared.transaction.Transaction.{Transaction}
use Rattle.sgt_levels.specs.Answers.{IsSnapshotRight}
use Rattle.sgt_levels.specs.Commits.{IsCommittedRun}
use Rattle.sgt_levels.proofs.levels.committed_of.Goals as goal

pub returns-in-Some : goal.returns-in-Some
returns-in-Some c =
    (subst (λ o. IfSome o (λ order. (h : List Transaction) → IsSnapshotRight h c.args.snapshot.now → IsCommittedRun h order.items))
    c.in-Some.is c.in_ok-order.ensures) c.args.history.now c.requires.snapshot
