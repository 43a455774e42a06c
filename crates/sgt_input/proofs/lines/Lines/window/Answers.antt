use Rattle.std.proofs.Common.{◌≤◌, length, take, subst, sym, ap, ◌∙◌}
use Rattle.std.proofs.lemmas.List.{length-take-le, take-take}
use Rattle.sgt_input.specs.Intake.{Intake}
use Rattle.sgt_input.proofs.Breaks.{whole-wide}
use Rattle.sgt_input.proofs.lines.Lines.window.Goals as goal

pub slice_bounds-result-end : goal.slice_bounds-result-end
slice_bounds-result-end c =
    let wide = whole-wide c.self.inside.buffer.held c.self.inside.within c.self.inside.whole c.self.invariant.are c.if-self-lt-WINDOW.false in
    sym (length-take-le 64 c.held.result.now (subst (λ bytes. 64 ≤ length bytes) (sym c.held.ensures.held) wide.0))

pub returns-clause-size : goal.returns-clause-size
returns-clause-size c =
    let wide = whole-wide c.self.inside.buffer.held c.self.inside.within c.self.inside.whole c.self.invariant.are c.if-self-lt-WINDOW.false in
    length-take-le 64 c.held.result.now (subst (λ bytes. 64 ≤ length bytes) (sym c.held.ensures.held) wide.0)

pub returns-clause-bytes : goal.returns-clause-bytes
returns-clause-bytes c =
    let wide = whole-wide c.self.inside.buffer.held c.self.inside.within c.self.inside.whole c.self.invariant.are c.if-self-lt-WINDOW.false in
    ap (take 64) c.held.ensures.held ∙ sym (take-take 64 c.self.inside.within c.self.inside.buffer.held wide.1)
    ∙ ap (λ (i : Intake). take 64 (take i.within i.held)) c.self.view_is
