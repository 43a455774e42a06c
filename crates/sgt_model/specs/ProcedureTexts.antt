-- The text of a stored procedure.
use Rattle.std.specs.Prelude.{List, [], ◌∷◌}
use Rattle.sgt_model.specs.declared.procedure.Expr.{Expr}
use Rattle.sgt_model.specs.declared.procedure.Expr.TheVariants.{Num, Arg, Reg, Sum', Diff', Product', Quotient'}
use Rattle.sgt_model.specs.declared.procedure.Cond.{Cond}
use Rattle.sgt_model.specs.declared.procedure.Cond.TheVariants.{Less, AtMost, Equal}
use Rattle.sgt_model.specs.declared.procedure.Statement.{Statement, Row_of-Statement, end_of-Statement, more_of-Statement}
use Rattle.sgt_model.specs.declared.procedure.Statement.TheVariants.{Look, Find, Put, Remove, Let, Ask, If', Answer}
use Rattle.sgt_model.specs.declared.procedure.Procedure.{Procedure}
use Rattle.sgt_model.specs.Syntax.{ExprText, num, arg, reg, sum, diff, product, quotient, CondText, less, at_most, equal, Block, empty, look, find, put, remove, save, ask, choose, answer, ProcedureText}

-- the text of an expression
abbrev pub expr_text : Expr → ExprText
expr_text (Num n) = num n
expr_text (Arg n) = arg n
expr_text (Reg n) = reg n
expr_text (Sum' p a q b) = sum (expr_text a) (expr_text b)
expr_text (Diff' p a q b) = diff (expr_text a) (expr_text b)
expr_text (Product' p a q b) = product (expr_text a) (expr_text b)
expr_text (Quotient' p a q b) = quotient (expr_text a) (expr_text b)

-- the text of a condition
abbrev pub cond_text : Cond → CondText
cond_text (Less a b) = less (expr_text a) (expr_text b)
cond_text (AtMost a b) = at_most (expr_text a) (expr_text b)
cond_text (Equal a b) = equal (expr_text a) (expr_text b)

abbrev mutual
  -- the text of a statement before others
  pub in_front : Statement → Block → Block
  in_front (Look to table id absent) rest = look to table (expr_text id) absent rest
  in_front (Find to table id absent) rest = find to table (expr_text id) (expr_text absent) rest
  in_front (Put table id value) rest = put table (expr_text id) (expr_text value) rest
  in_front (Remove table id) rest = remove table (expr_text id) rest
  in_front (Let to value) rest = save to (expr_text value) rest
  in_front (Ask code) rest = ask code rest
  in_front (If' cond s ys t ns) rest = choose (cond_text cond) (row_block ys) (row_block ns) rest
  in_front (Answer value) rest = answer (expr_text value) rest

  -- the text of statements in a row, as an If stores them
  pub row_block : {n : _} → Row_of-Statement n → Block
  row_block end_of-Statement = empty
  row_block (more_of-Statement s rest) = in_front s (row_block rest)

-- the text of statements in a row
abbrev pub block_of : List Statement → Block
block_of [] = empty
block_of (s ∷ rest) = in_front s (block_of rest)

-- the text of a procedure
abbrev pub procedure_text : Procedure → ProcedureText
procedure_text p = record { args = p.args; body = block_of p.body.items }
