use Rattle.std.proofs.Common.{rules, ◌≡◌, ◌∙◌, [], ◌∷◌, ap, pos}
use Rattle.sgt_model.specs.declared.procedure.Statement.TheVariants.{Let}
use Rattle.sgt_model.specs.declared.procedure.Cond.TheVariants.{Less}
use Rattle.sgt_model.specs.declared.procedure.Expr.TheVariants.{Arg}
use Rattle.sgt_model.specs.ProcedureTexts.{expr_text}
use Rattle.sgt_model.specs.Syntax.{sum, diff, reg, arg, num, empty, save, choose, less}
use Rattle.sgt_smallbank.proofs.Forks.{before_branches}
use Rattle.sgt_smallbank.proofs.five_procedures.charge.Goals as goal

pub returns : goal.returns
returns c = λ rest.
    let first : c.in_ok-yes.yes.items ≡ Let 3 c.in_ok-less_penalty.field-0 ∷ [] = search rules in
    let second : c.in_ok-no.no.items ≡ Let 3 c.in_ok-left.left ∷ [] = search rules in
    let without : expr_text c.in_ok-left.left ≡ diff (reg 2) (arg 1) = search rules in
    let total : expr_text c.in_ok-sum.sum ≡ sum (reg 1) (reg 2) = search rules in
    before_branches (Less c.in_ok-sum.sum (Arg 1)) c.in_ok-yes.yes c.in_ok-no.no _ _ first second rest
    ∙ ap (λ t. choose (less t (arg 1)) (save 3 (expr_text c.in_ok-less_penalty.field-0) empty)
    (save 3 (expr_text c.in_ok-left.left) empty) rest) total
    ∙ ap (λ t. choose (less (sum (reg 1) (reg 2)) (arg 1)) (save 3 t empty)
    (save 3 (expr_text c.in_ok-left.left) empty) rest) c.in_ok-less_penalty.ensures
    ∙ ap (λ t. choose (less (sum (reg 1) (reg 2)) (arg 1)) (save 3 (diff (diff (reg 2) (arg 1)) (num (pos 100))) empty)
    (save 3 t empty) rest) without
