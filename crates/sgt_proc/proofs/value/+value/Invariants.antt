use Rattle.std.proofs.Common.{◌+◌, ◌*◌, max}
use Rattle.sgt_model.specs.ProcedureTexts.{expr_text}
use Rattle.sgt_proc.specs.Flaws.{expr_depth}
use Rattle.sgt_proc.proofs.value.+value.Given as goal

abbrev pub decreases-value : goal.decreases-value
decreases-value l = 3 * expr_depth (expr_text l.expr.now) + 2

abbrev pub decreases-value_by_parts : goal.decreases-value_by_parts
decreases-value_by_parts l = 3 * expr_depth (expr_text l.expr.now) + 1

abbrev pub decreases-numbers : goal.decreases-numbers
decreases-numbers l = 3 * max (expr_depth (expr_text l.first.now)) (expr_depth (expr_text l.second.now)) + 3
