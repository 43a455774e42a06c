use Rattle.std.proofs.Common.{◌≡◌, ◌+◌, sym, ap, subst, ◌∙◌}
use Rattle.std.specs.Io.KnownBytes.{Keeps}
use Rattle.std.proofs.lemmas.Result.{IfOk-weaker, IfErr-weaker}
use Rattle.sgt_input.specs.Lines.{AtLongLine}
use Rattle.sgt_input.specs.declared.fault.Fault.{Fault}
use Rattle.sgt_input.specs.Intake.{Explains, Intake, bytes_left, cut_left}
use Rattle.sgt_input.proofs.Given.{keeps-gives, keeps-ends, after-give, ends-at-long}
use Rattle.sgt_input.proofs.Known.{keeps-same}
use Rattle.sgt_input.proofs.lines.Lines.next_line.Goals as goal
use Rattle.sgt_input.proofs.lines.Lines.next_line.Goals.{then-not-has_line+in_ok-fill, else-not-has_line}

pub returns-clause-line : goal.returns-clause-line
returns-clause-line g c =
    let come = c.if-not-has_line.self in
    let within : come.within ≡ c.args.self.now.within = elim c.if-not-has_line.branch [
      | then-not-has_line+in_ok-fill w ↦ ap (λ (i : Intake). i.within) w.self-is ∙ w.fill.ensures.within
      | else-not-has_line w ↦ ap (λ (i : Intake). i.within) w.self-is
    ] in
    let bytes : Keeps (bytes_left c.args.self.now (g.S.Source.rest c.args.source.now))
    (bytes_left come (g.S.Source.rest c.if-not-has_line.source)) = elim c.if-not-has_line.branch [
      | then-not-has_line+in_ok-fill w ↦ rw (w.self-is, w.source-is) w.fill.ensures.bytes
      | else-not-has_line w ↦ rw (w.self-is, w.source-is) (keeps-same _)
    ] in
    IfOk-weaker c.give.result _ _
    (λ more given is. keeps-gives c.args.self.now.within come.within _ _ c.give.new.self.line _ bytes within
    (after-give come c.give.new.self (g.S.Source.rest c.if-not-has_line.source) (given is)))
    c.give.ensures.given

pub returns-clause-fault : goal.returns-clause-fault
returns-clause-fault g c =
    let come = c.if-not-has_line.self in
    let within : come.within ≡ c.args.self.now.within = elim c.if-not-has_line.branch [
      | then-not-has_line+in_ok-fill w ↦ ap (λ (i : Intake). i.within) w.self-is ∙ w.fill.ensures.within
      | else-not-has_line w ↦ ap (λ (i : Intake). i.within) w.self-is
    ] in
    let number : come.number ≡ c.args.self.now.number = elim c.if-not-has_line.branch [
      | then-not-has_line+in_ok-fill w ↦ ap (λ (i : Intake). i.number) w.self-is ∙ w.fill.ensures.number
      | else-not-has_line w ↦ ap (λ (i : Intake). i.number) w.self-is
    ] in
    let bytes : Keeps (bytes_left c.args.self.now (g.S.Source.rest c.args.source.now))
    (bytes_left come (g.S.Source.rest c.if-not-has_line.source)) = elim c.if-not-has_line.branch [
      | then-not-has_line+in_ok-fill w ↦ rw (w.self-is, w.source-is) w.fill.ensures.bytes
      | else-not-has_line w ↦ rw (w.self-is, w.source-is) (keeps-same _)
    ] in
    IfErr-weaker c.give.result _ _
    (λ f long. subst (λ (e : Fault). Explains e c.args.self.now.number
    (cut_left c.args.self.now (g.S.Source.rest c.args.source.now))) (sym long.0) (
      ap (λ n. n + 1) number,
      keeps-ends c.args.self.now.within come.within _ _ AtLongLine bytes within
          (ends-at-long come (g.S.Source.rest c.if-not-has_line.source) long.1),
    ))
    c.give.ensures.fault
