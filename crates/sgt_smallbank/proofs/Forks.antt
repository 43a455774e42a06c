-- The text of an If, from the statements of its branches.
use Rattle.std.proofs.Common.{◌≡◌, ◌∙◌, List}
use Rattle.std.specs.declared.vec.Vec.{Vec}
use Rattle.std.specs.declared.alloc.Global.{Global}
use Rattle.sgt_model.specs.declared.procedure.Statement.{Statement}
use Rattle.sgt_model.specs.declared.procedure.Statement.TheVariants.{If}
use Rattle.sgt_model.specs.declared.procedure.Cond.{Cond}
use Rattle.sgt_model.specs.Syntax.{Block, choose}
use Rattle.sgt_model.specs.ProcedureTexts.{cond_text, in_front, block_of}
use Rattle.sgt_model.proofs.Texts.{before_if}

-- an If whose branches have these statements
pub before_branches : (c : Cond) (first second : Vec Statement Global) (xs ys : List Statement) → first.items ≡ xs
    → second.items ≡ ys → (rest : Block) → in_front (If c first second) rest ≡ choose (cond_text c) (block_of xs) (block_of ys) rest
before_branches c first second xs ys is_first is_second rest = before_if c first second rest
    ∙ (λ i. choose (cond_text c) (block_of (is_first i)) (block_of (is_second i)) rest)
