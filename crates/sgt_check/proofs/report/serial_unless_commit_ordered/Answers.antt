use Rattle.std.proofs.Common.{subst}
use Rattle.sgt_classes.specs.Classes.{IsFirstViolation}
use Rattle.sgt_classes.specs.Serializability.{BreaksCommitOrder}
use Rattle.sgt_check.proofs.report.serial_unless_commit_ordered.Goals as goal

pub serial_commit_order-requires : goal.serial_commit_order-requires
serial_commit_order-requires c = subst (λ v. IsFirstViolation (BreaksCommitOrder c.args.history.now) v) c.in-None.is c.requires
