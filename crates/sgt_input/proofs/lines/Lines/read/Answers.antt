use Rattle.std.proofs.Common.{◌≡◌, ◌≤◌, ◌+◌, take, length, ap, sym, ◌∙◌, arith}
use Rattle.std.specs.Prelude.{false}
use Rattle.std.proofs.lemmas.Grind.{common_steps}
use Rattle.sgt_input.specs.Lines.{has_break, whole_lines}
use Rattle.sgt_input.specs.Intake.{Intake, has_whole_line}
use Rattle.sgt_input.proofs.Known.{keeps-read, held-same, at-end, on_err}
use Rattle.sgt_input.proofs.Given.{no-line}
use Rattle.sgt_input.proofs.lines.Lines.read.Goals as goal

pub returns-in_err-n-clause-no_line : goal.returns-in_err-n-clause-no_line
returns-in_err-n-clause-no_line g c =
    let none : has_break (take c.self.inside.within c.self.inside.buffer.held) ≡ false = ap has_whole_line c.self.view_is
    ∙ c.requires.no_line in
    let same : c.read.new.self.held ≡ c.self.inside.buffer.held = c.in_err-n.ensures.err in
    let fits : length c.self.inside.buffer.held ≤ c.self.inside.within = grind (arith, common_steps) in
    on_err (ap whole_lines same ∙ no-line c.self.inside.within c.self.inside.buffer.held none fits) c.from_residual.result

pub invariant_of-self-then-n-eq0 : goal.invariant_of-self-then-n-eq0
invariant_of-self-then-n-eq0 g c =
    let none : has_break (take c.self.inside.within c.self.inside.buffer.held) ≡ false = ap has_whole_line c.self.view_is
    ∙ c.requires.no_line in
    at-end c.self.inside.number c.self.inside.within c.self.inside.ended c.self.inside.buffer.held c.read.new.self.held c.self.inside.whole
    c.self.invariant none
    (grind (arith, common_steps))
    (grind (arith, common_steps))
    (held-same c.self.inside.buffer.held c.read.new.self.held c.in_ok-n.ensures.kept (c.in_ok-n.ensures.count
    ∙ ap (λ n. length c.self.inside.buffer.held + n) c.if-n-eq0.true))

pub returns-else-n-eq0-clause-bytes : goal.returns-else-n-eq0-clause-bytes
returns-else-n-eq0-clause-bytes g c =
    let held : c.args.self.now.held ≡ c.self.inside.buffer.held = ap (λ (i : Intake). i.held) (sym c.self.view_is) in
    keeps-read c.args.self.now c.self.inside.ended c.read.new.self.held _ _ c.requires.going
    (ap (λ (i : Intake). i.ended) c.self.view_is ∙ c.requires.going)
    (rw held c.in_ok-n.ensures.kept)
    (rw held c.in_ok-n.ensures.bytes)
