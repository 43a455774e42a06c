-- The first place of a flaw in statements, from the first one and the ones after it.
use Rattle.std.proofs.Common.{◌≡◌, refl, ap, ◌∙◌, ℕ, ◌+◌, ◌<◌, length, get_or, drop, Bool, List}
use Rattle.std.specs.declared.vec.Vec.{Vec}
use Rattle.std.specs.declared.alloc.Global.{Global}
use Rattle.sgt_model.specs.declared.procedure.Statement.{Statement}
use Rattle.sgt_model.specs.declared.procedure.Statement.TheVariants.{Look, Find, Put, Remove, Let, Ask, If', If, Answer}
use Rattle.sgt_model.specs.declared.procedure.Cond.{Cond}
use Rattle.sgt_model.specs.Syntax.{Block, empty}
use Rattle.sgt_model.specs.ProcedureTexts.{cond_text, in_front, block_of}
use Rattle.sgt_proc.specs.declared.numbers.Number.{Number}
use Rattle.sgt_proc.specs.FlawPlaces.{under, or_else, first_in_cond, first_in_block, first_in_statement}
use Rattle.sgt_model.proofs.Texts.{before_if}
use Rattle.sgt_proc.proofs.StatementTexts.{block_drop}

first_before : (bad : Number → Bool) (i : ℕ) (s : Statement) (b : Block) → first_in_block bad i (in_front s b)
    ≡ or_else (under i (first_in_statement bad (in_front s empty))) (first_in_block bad (i + 1) b)
first_before bad i (Look to table id absent) b = refl
first_before bad i (Find to table id absent) b = refl
first_before bad i (Put table id value) b = refl
first_before bad i (Remove table id) b = refl
first_before bad i (Let to value) b = refl
first_before bad i (Ask code) b = refl
first_before bad i (If' cond p ys q ns) b = refl
first_before bad i (Answer value) b = refl

pub first_drop : (list : List Statement) (i : ℕ) (s : Statement) → i < length list → s ≡ get_or list i s → (bad : Number → Bool)
    → first_in_block bad i (block_of (drop i list))
    ≡ or_else (under i (first_in_statement bad (in_front s empty))) (first_in_block bad (i + 1) (block_of (drop (i + 1) list)))
first_drop list i s h e bad = ap (first_in_block bad i) (block_drop list i s h e) ∙ first_before bad i s _

pub if_first : (c : Cond) (ys ns : Vec Statement Global) (bad : Number → Bool) → first_in_statement bad (in_front (If c ys ns) empty)
    ≡ or_else (under 1 (first_in_cond bad (cond_text c)))
    (or_else (under 2 (first_in_block bad 0 (block_of ys.items))) (under 3 (first_in_block bad 0 (block_of ns.items))))
if_first c ys ns bad = ap (first_in_statement bad) (before_if c ys ns empty)
