-- The bound for procedures that passed the check.
use Rattle.std.specs.Prelude.{◌≡◌, ◌≤◌, Option, Some, None}
use Rattle.std.proofs.Common.{refl, arith}
use Rattle.sgt_model.specs.Syntax.{ProcedureText}
use Rattle.sgt_proc.specs.declared.flaw.Flaw.TheVariants.{TooLong}
use Rattle.sgt_proc.specs.Flaws.{IsFlawless}
use Rattle.sgt_proc.specs.LongestPaths.{most_accesses}
use Rattle.sgt_proc.proofs.LongestPaths.{accesses_few}
use Rattle.sgt_progress.specs.Checked.{CheckedDrainSoon}
use Rattle.sgt_progress.proofs.Drains.{events_left_are_few}

most_few : (o : Option ProcedureText) → ((p : ProcedureText) → o ≡ Some p → IsFlawless p) → most_accesses o ≤ 64
most_few None h = omega arith
most_few (Some p) h = let few = accesses_few p.body in let flawless = h p refl TooLong in omega (arith, few, flawless)

pub checked_drain_soon : CheckedDrainSoon
checked_drain_soon s past legal checked = events_left_are_few s past legal 64 (λ n. most_few (s.rules.procedures n) (checked n))
