use Rattle.std.proofs.Common.{ap, ◌∙◌}
use Rattle.sgt_model.specs.Syntax.{ProcedureText}
use Rattle.sgt_model.specs.Left.{Left, next_left}
use Rattle.sgt_proc.proofs.Moved.{given_at_end}
use Rattle.sgt_proc.proofs.cursor.Cursor.answers.Goals as goal

pub returns : goal.returns
returns c = λ answers e.
    given_at_end c.self.inside.procedure.value.body c.self.inside.following.value c.self.inside.place c.self.inside.stop answers
    c.self.invariant.same (ap (λ (w : ProcedureText × Left). next_left w.1) c.self.view_is ∙ e)
