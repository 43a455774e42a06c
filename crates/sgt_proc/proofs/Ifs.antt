-- Facts about an `If`, from facts about its branches.
use Rattle.std.proofs.Common.{◌≡◌, refl, ap, ◌∙◌, ℕ, ◌+◌, max, Bool, true, false, cond, ◌||◌}
use Rattle.std.specs.declared.vec.Vec.{Vec}
use Rattle.std.specs.declared.alloc.Global.{Global}
use Rattle.sgt_model.specs.declared.procedure.Statement.{Statement}
use Rattle.sgt_model.specs.declared.procedure.Statement.TheVariants.{If}
use Rattle.sgt_model.specs.declared.procedure.Cond.{Cond}
use Rattle.sgt_model.specs.Syntax.{Block, empty}
use Rattle.sgt_model.specs.ProcedureTexts.{cond_text, in_front, block_of}
use Rattle.sgt_model.specs.Ways.{Way, onto}
use Rattle.sgt_proc.specs.declared.numbers.Number.{Number}
use Rattle.sgt_proc.specs.Flaws.{in_cond, in_block, cond_uses, uses_unset, most_answers, size, depth, cond_depth, exprs_depth}
use Rattle.sgt_proc.specs.Paths.{branch}
use Rattle.sgt_model.proofs.Texts.{before_if}
use Rattle.sgt_proc.proofs.StatementTexts.{onto_if}

or_false : (a : Bool) → (a || false) ≡ a
or_false true = refl
or_false false = refl

module _ (c : Cond) (ys ns : Vec Statement Global) where
  pub if_in_block : (so : Number → Bool) → in_block so
      (in_front (If c ys ns) empty) ≡ (in_cond so (cond_text c) || (in_block so (block_of ys.items) || in_block so (block_of ns.items)))
  if_in_block so = ap (in_block so) (before_if c ys ns empty) ∙ or_false _

  pub if_live : (r : ℕ) (rest : Way) → uses_unset r (onto (in_front (If c ys ns) empty) rest)
      ≡ (cond_uses r (cond_text c) || (uses_unset r (onto (block_of ys.items) rest) || uses_unset r (onto (block_of ns.items) rest)))
  if_live r rest = ap (uses_unset r) (onto_if c ys ns rest)

  pub if_answers : (rest : Way) → most_answers (onto (in_front (If c ys ns) empty) rest)
      ≡ max (most_answers (onto (block_of ys.items) rest))
      (most_answers (onto (block_of ns.items) rest))
  if_answers rest = ap most_answers (onto_if c ys ns rest)

  pub if_size : size (in_front (If c ys ns) empty) ≡ 1 + (size (block_of ys.items) + size (block_of ns.items)) + 0
  if_size = ap size (before_if c ys ns empty)

  pub if_depth : depth (in_front (If c ys ns) empty) ≡ max (1 + max (depth (block_of ys.items)) (depth (block_of ns.items))) 0
  if_depth = ap depth (before_if c ys ns empty)

  pub if_terms : exprs_depth (in_front (If c ys ns) empty) ≡ max
      (max (cond_depth (cond_text c)) (max (exprs_depth (block_of ys.items)) (exprs_depth (block_of ns.items)))) 0
  if_terms = ap exprs_depth (before_if c ys ns empty)

  pub if_branch : (held : Bool) (rest : Block)
      → branch held (in_front (If c ys ns) rest) ≡ cond held (block_of ys.items) (block_of ns.items)
  if_branch held rest = ap (branch held) (before_if c ys ns rest)
