-- An operation of arithmetic, applied to two expressions.
use Rattle.sgt_model.specs.Syntax.{ExprText, sum, diff, product, quotient}
use Rattle.sgt_proc_json.specs.declared.read_expr.Operation.{Operation}
use Rattle.sgt_proc_json.specs.declared.read_expr.Operation.TheVariants.{Sum, Diff, Product, Quotient}

abbrev pub operated : Operation → ExprText → ExprText → ExprText
operated Sum a b = sum a b
operated Diff a b = diff a b
operated Product a b = product a b
operated Quotient a b = quotient a b
