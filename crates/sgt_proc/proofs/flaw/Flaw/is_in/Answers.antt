use Rattle.std.proofs.Common.{ap, ◌∙◌}
use Rattle.sgt_model.specs.ProcedureTexts.{procedure_text, block_of}
use Rattle.sgt_proc.specs.Flaws.{in_block}
use Rattle.sgt_proc.specs.NumberFlaws.{is_bad}
use Rattle.sgt_proc.proofs.AllFlaws.{number_flaw}
use Rattle.sgt_proc.proofs.flaw.Flaw.is_in.Goals as goal

pub returns-in-HighRegister : goal.returns-in-HighRegister
returns-in-HighRegister c =
    number_flaw c.args.self.now (procedure_text c.args.procedure.now) c.is_broken_in_text.result c.in-HighRegister.is
    (c.is_broken_in_text.ensures ∙ ap (λ l. in_block (is_bad c.args.self.now c.args.procedure.now.args) (block_of l))
    c.as_slice-body.ensures.value)
