use Rattle.std.proofs.Common.{rules, ◌≡◌, sym, ap, ◌∙◌, ◌+◌, subst, Some, w64}
use Rattle.std.proofs.lemmas.Int.{to_z-of_z}
use mir.Val.{SFits}
use Rattle.sgt_model.specs.Syntax.{ProcedureText}
use Rattle.sgt_model.specs.Left.{Left, after_look, reached}
use Rattle.sgt_proc.specs.declared.place.Stop.{Stop}
use Rattle.sgt_proc.specs.Places.{with_found_in, reached_at}
use Rattle.sgt_proc.specs.Cursors.{left_after}
use Rattle.sgt_proc.proofs.Moved.{looked_on}
use Rattle.sgt_proc.proofs.cursor.Cursor.looked.Goals as goal

pub returns-in-Some : goal.returns-in-Some
returns-in-Some c =
    let fits : SFits w64 c.in-Some.found = search rules in
    let same =
    subst (λ (s : Stop). reached_at c.self.inside.procedure.value.body c.self.inside.place s ≡ reached
    (left_after c.self.inside.procedure.value.body c.self.inside.following.value s)) c.in-Look.is c.self.invariant.same in
    let moved = looked_on c.self.inside.procedure.value.body c.self.inside.following.value c.self.inside.place c.in-Look.key c.in-Look.reg
    c.in-Look.absent c.in-Some.found c.of.result.value c.advance.new.stop same
    (c.of.ensures ∙ (c.set.ensures ∙ ap (with_found_in
    (record {
      args = c.self.inside.place.args;
      registers = c.self.inside.place.registers;
      answers = c.self.inside.place.answers;
      path =
          c.self.inside.place.path;
      at = c.self.inside.place.at + 1;
    }) c.in-Look.reg) (to_z-of_z w64 c.in-Some.found fits)))
    c.advance.ensures.stops.found in
    ap (λ l. (c.self.inside.procedure.value, l)) (moved
    ∙ ap (λ (s : Stop). after_look (Some c.in-Some.found) (left_after c.self.inside.procedure.value.body c.self.inside.following.value s))
    (sym c.in-Look.is))
    ∙ (ap (λ (w : ProcedureText × Left). (w.0, after_look (Some c.in-Some.found) w.1)) c.self.view_is
    ∙ ap (λ v. (c.args.self.now.0, after_look v c.args.self.now.1)) (sym c.in-Some.is))
