-- Stored statements and the text that they are.
use Rattle.std.proofs.Common.{◌≡◌, refl, ◌∙◌, ap}
use Rattle.std.specs.declared.vec.Vec.{Vec}
use Rattle.std.specs.declared.alloc.Global.{Global}
use Rattle.sgt_model.specs.declared.procedure.Statement.{Statement, Row_of-Statement, end_of-Statement, more_of-Statement, items-the_row-Statement, items_hidden-the_row-Statement-0}
use Rattle.sgt_model.specs.declared.procedure.Statement.TheBlock.{hidden-the_row-Statement-0}
use Rattle.sgt_model.specs.declared.procedure.Statement.TheVariants.{If}
use Rattle.sgt_model.specs.declared.procedure.Cond.{Cond}
use Rattle.sgt_model.specs.Syntax.{Block, choose}
use Rattle.sgt_model.specs.ProcedureTexts.{cond_text, in_front, row_block, block_of}

row_block_is : {n : _} (k : Row_of-Statement n) → row_block k ≡ block_of (items-the_row-Statement n k)
row_block_is end_of-Statement = refl
row_block_is (more_of-Statement s k) = ap (in_front s) (row_block_is k)

row_block_hidden : (v : Vec Statement Global) → row_block (hidden-the_row-Statement-0 v) ≡ block_of v.items
row_block_hidden v = row_block_is (hidden-the_row-Statement-0 v) ∙ ap block_of (items_hidden-the_row-Statement-0 v)

-- the text of an If has the texts of its branches
pub before_if : (c : Cond) (ys ns : Vec Statement Global) (rest : Block) → in_front (If c ys ns) rest ≡ choose (cond_text c)
    (block_of ys.items) (block_of ns.items) rest
before_if c ys ns rest = λ i. choose (cond_text c) (row_block_hidden ys i) (row_block_hidden ns i) rest
