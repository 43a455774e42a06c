-- Facts of a list of statements, from those of one statement and of the ones after it.
use Rattle.std.proofs.Common.{◌≡◌, refl, ap, ◌∙◌, ℕ, ◌+◌, ◌<◌, ◌≤◌, max, length, get_or, drop, Bool, true, false, ◌||◌, List, arith}
use Rattle.sgt_model.specs.declared.procedure.Statement.{Statement}
use Rattle.sgt_model.specs.declared.procedure.Statement.TheVariants.{Look, Find, Put, Remove, Let, Ask, If', Answer}
use Rattle.sgt_model.specs.Syntax.{Block, empty}
use Rattle.sgt_model.specs.ProcedureTexts.{expr_text, cond_text, in_front, row_block, block_of}
use Rattle.sgt_proc.specs.declared.numbers.Number.{Number}
use Rattle.sgt_proc.specs.declared.numbers.Number.TheVariants.{Register, Table, Code}
use Rattle.sgt_proc.specs.Flaws.{in_expr, in_cond, in_block, size, depth, exprs_depth}
use Rattle.sgt_proc.proofs.StatementTexts.{block_drop}

or_first : (a b : Bool) → (a || b) ≡ ((a || false) || b)
or_first true b = refl
or_first false b = refl

in_before : (so : Number → Bool) (s : Statement) (b : Block)
    → in_block so (in_front s b) ≡ (in_block so (in_front s empty) || in_block so b)
in_before so (Look to table id absent) b =
    or_first (so (Register to) || (so (Table table) || (in_expr so (expr_text id) || so (Code absent)))) (in_block so b)
in_before so (Find to table id absent) b =
    or_first (so (Register to) || (so (Table table) || (in_expr so (expr_text id) || in_expr so (expr_text absent)))) (in_block so b)
in_before so (Put table id value) b = or_first (so (Table table) || (in_expr so (expr_text id) || in_expr so (expr_text value)))
    (in_block so b)
in_before so (Remove table id) b = or_first (so (Table table) || in_expr so (expr_text id)) (in_block so b)
in_before so (Let to value) b = or_first (so (Register to) || in_expr so (expr_text value)) (in_block so b)
in_before so (Ask code) b = or_first (so (Code code)) (in_block so b)
in_before so (If' cond p ys q ns) b =
    or_first (in_cond so (cond_text cond) || (in_block so (row_block ys) || in_block so (row_block ns))) (in_block so b)
in_before so (Answer value) b = or_first (in_expr so (expr_text value)) (in_block so b)

-- sizes and depths of a statement and of those after it
pub parts_before : (s : Statement) (b : Block) → (size (in_front s b) ≡ size (in_front s empty) + size b)
    × (depth (in_front s b) ≡ max (depth (in_front s empty)) (depth b))
    × (exprs_depth (in_front s b) ≡ max (exprs_depth (in_front s empty)) (exprs_depth b))
    × (1 ≤ size (in_front s empty)) × (1 ≤ depth (in_front s b))
parts_before (Look to table id absent) b = (omega arith, omega arith, omega arith, omega arith, omega arith)
parts_before (Find to table id absent) b = (omega arith, omega arith, omega arith, omega arith, omega arith)
parts_before (Put table id value) b = (omega arith, omega arith, omega arith, omega arith, omega arith)
parts_before (Remove table id) b = (omega arith, omega arith, omega arith, omega arith, omega arith)
parts_before (Let to value) b = (omega arith, omega arith, omega arith, omega arith, omega arith)
parts_before (Ask code) b = (omega arith, omega arith, omega arith, omega arith, omega arith)
parts_before (If' cond p ys q ns) b = (omega arith, omega arith, omega arith, omega arith, omega arith)
parts_before (Answer value) b = (omega arith, omega arith, omega arith, omega arith, omega arith)

module _ (list : List Statement) (i : ℕ) (s : Statement) (h : i < length list) (e : s ≡ get_or list i s) where
  pub in_drop : (so : Number → Bool) → in_block so (block_of (drop i list))
      ≡ (in_block so (in_front s empty) || in_block so (block_of (drop (i + 1) list)))
  in_drop so = ap (in_block so) (block_drop list i s h e) ∙ in_before so s _

  pub size_drop : size (block_of (drop i list)) ≡ size (in_front s empty) + size (block_of (drop (i + 1) list))
  size_drop = ap size (block_drop list i s h e) ∙ (parts_before s _).0

  pub depth_drop : depth (block_of (drop i list)) ≡ max (depth (in_front s empty)) (depth (block_of (drop (i + 1) list)))
  depth_drop = ap depth (block_drop list i s h e) ∙ (parts_before s _).1

  pub terms_drop : exprs_depth (block_of (drop i list)) ≡ max (exprs_depth (in_front s empty)) (exprs_depth (block_of (drop (i + 1) list)))
  terms_drop = ap exprs_depth (block_drop list i s h e) ∙ (parts_before s _).2
