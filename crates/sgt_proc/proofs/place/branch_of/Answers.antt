use Rattle.std.proofs.Common.{sym, ap, ◌∙◌, cond}
use Rattle.sgt_model.specs.ProcedureTexts.{in_front, block_of}
use Rattle.sgt_proc.specs.Paths.{branch}
use Rattle.sgt_proc.proofs.Ifs.{if_branch}
use Rattle.sgt_proc.proofs.place.branch_of.Goals as goal

pub returns-then-held : goal.returns-then-held
returns-then-held c = λ rest.
    ap block_of c.as_slice.ensures.value
    ∙ sym (ap (λ s. branch c.args.held (in_front s rest)) c.in-If.is
    ∙ (if_branch c.in-If.cond c.in-If.yes c.in-If.no c.args.held rest
    ∙ ap (λ b. cond b (block_of c.in-If.yes.items) (block_of c.in-If.no.items)) c.if-held.true))

pub returns-else-held : goal.returns-else-held
returns-else-held c = λ rest.
    ap block_of c.as_slice-else-held.ensures.value
    ∙ sym (ap (λ s. branch c.args.held (in_front s rest)) c.in-If.is
    ∙ (if_branch c.in-If.cond c.in-If.yes c.in-If.no c.args.held rest
    ∙ ap (λ b. cond b (block_of c.in-If.yes.items) (block_of c.in-If.no.items)) c.if-held.false))
