use Rattle.std.proofs.Common.{◌≡◌, sym, ap, ◌∙◌, subst}
use Rattle.sgt_model.specs.Syntax.{ProcedureText}
use Rattle.sgt_model.specs.Left.{Left, after_store, reached}
use Rattle.sgt_proc.specs.declared.place.Stop.{Stop}
use Rattle.sgt_proc.specs.Places.{reached_at}
use Rattle.sgt_proc.specs.Cursors.{left_after}
use Rattle.sgt_proc.proofs.Moved.{stored_on}
use Rattle.sgt_proc.proofs.cursor.Cursor.stored.Goals as goal

pub returns-in-Put : goal.returns-in-Put
returns-in-Put c =
    let same =
    subst (λ (s : Stop). reached_at c.self.inside.procedure.value.body c.self.inside.place s ≡ reached
    (left_after c.self.inside.procedure.value.body c.self.inside.following.value s)) c.in-Put.is c.self.invariant.same in
    let moved = stored_on c.self.inside.procedure.value.body c.self.inside.following.value c.self.inside.place c.in-Put.field-0
    c.in-Put.field-1 c.of.result.value c.advance.new.stop same c.of.ensures c.advance.ensures.stops.found in
    ap (λ l. (c.self.inside.procedure.value, l)) (moved
    ∙ ap (λ (s : Stop). after_store (left_after c.self.inside.procedure.value.body c.self.inside.following.value s)) (sym c.in-Put.is))
    ∙ ap (λ (w : ProcedureText × Left). (w.0, after_store w.1)) c.self.view_is
