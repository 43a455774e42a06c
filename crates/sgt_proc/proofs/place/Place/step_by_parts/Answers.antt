use Rattle.std.proofs.Common.{◌≡◌, rules, refl, cond}
use Rattle.sgt_model.specs.Syntax.{empty}
use Rattle.sgt_model.specs.ProcedureTexts.{block_of}
use Rattle.sgt_proc.proofs.Stepped.{test_is, if_step, if_passed}
use Rattle.sgt_proc.proofs.place.Place.step_by_parts.Goals as goal

pub returns-then-is_branch_empty-clause-steps : goal.returns-then-is_branch_empty-clause-steps
returns-then-is_branch_empty-clause-steps c = λ b inside here.
    let none : cond c.in-Ok-test.held (block_of c.in-If.yes.items) (block_of c.in-If.no.items) ≡ empty = search rules in
    if_passed b c.args.self.now _ c.args.statement.now c.in-If.cond c.in-If.yes c.in-If.no c.in-Ok-test.held inside c.in-If.is here
    c.requires.few (test_is _ _ (search rules)) none refl refl refl refl refl

pub returns-else-is_branch_empty-clause-steps : goal.returns-else-is_branch_empty-clause-steps
returns-else-is_branch_empty-clause-steps c = λ b inside here.
    if_step b c.args.self.now _ c.args.statement.now c.in-If.cond c.in-If.yes c.in-If.no c.in-Ok-test.held inside c.in-If.is here
    c.requires.few (test_is _ _ (search rules)) refl refl refl c.push.ensures.items refl
