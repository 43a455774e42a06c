use Rattle.std.specs.Prelude.{◌+◌}
use Rattle.sgt_model.specs.ProcedureTexts.{expr_text}
use Rattle.sgt_proc_json.proofs.TermSizes.{term_size}
use Rattle.sgt_proc_json.proofs.write_expr.+expression.Given as goal

abbrev pub decreases-write_expr : goal.decreases-write_expr
decreases-write_expr l = term_size (expr_text l.expr.now)

abbrev pub decreases-write_pair : goal.decreases-write_pair
decreases-write_pair l = term_size (expr_text l.left.now) + term_size (expr_text l.right.now) + 1
