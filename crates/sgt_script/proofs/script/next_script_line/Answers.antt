use Rattle.std.proofs.Common.{rules, ◌≡◌, ◌+◌, Ok, Err, ap, refl, subst, sym}
use Rattle.std.specs.Prelude.{IfErr}
use Rattle.sgt_format.specs.ScriptLines.{line_of, script_line_of}
use Rattle.sgt_format.specs.declared.script_line.ScriptLine.TheVariants as ScriptLine
use Rattle.sgt_input.specs.Lines.{AtEnd}
use Rattle.sgt_input.specs.Intake.{Intake, IsGiven, cut_left}
use Rattle.sgt_input.specs.Spelled.{at_line}
use Rattle.sgt_input.specs.Ends.{IsOfInput}
use Rattle.sgt_script.specs.Answering.{NoLine}
use Rattle.sgt_input.proofs.FaultsRead.{spells, spells-none}
use Rattle.sgt_input.proofs.Given.{after-give}
use Rattle.sgt_script.proofs.NextLines.{line-asks, line-fails, no-line-ends, no-line-fits}
use Rattle.sgt_script.proofs.script.next_script_line.Goals as goal

pub returns-then-takes_event_ahead-clause-line : goal.returns-then-takes_event_ahead-clause-line
returns-then-takes_event_ahead-clause-line g c =
    let to = c.takes_event_ahead.new.lines in
    let given : IsGiven c.args.lines.now to = search rules in
    let rest = g.S.Source.rest c.args.source.now in
    let event = ScriptLine.Event c.takes_event_ahead.new.event in
    let is : script_line_of to.line ≡ Ok event = search rules in
    line-asks (c.args.lines.now.number + 1) to.number (cut_left c.args.lines.now rest) (cut_left to rest) to.line event given.number
    (after-give c.args.lines.now to rest given) (ap (at_line to.number) is)

pub returns-in_err-next_line-clause-fault : goal.returns-in_err-next_line-clause-fault
returns-in_err-next_line-clause-fault g c =
    let from = c.takes_event_ahead.new.lines in
    let kept : from ≡ c.args.lines.now = search rules in
    let failed : c.from_residual.result ≡ Err c.in_err-next_line.field-0.0 = search rules in
    subst (λ (i : Intake). IfErr c.from_residual.result (λ f. IsOfInput f → NoLine (i.number + 1)
    (cut_left i (g.S.Source.rest c.args.source.now)) (Err f))) kept
    (subst (λ r. IfErr r (λ f. IsOfInput f → NoLine (from.number + 1) (cut_left from (g.S.Source.rest c.args.source.now)) (Err f)))
    (sym failed) (no-line-fits from.number (cut_left from (g.S.Source.rest c.args.source.now)) _ c.in_err-next_line.ensures.fault))

pub returns-then-not-branch-clause-end : goal.returns-then-not-branch-clause-end
returns-then-not-branch-clause-end g c = λ none.
    no-line-ends (c.args.lines.now.number + 1) AtEnd (cut_left c.args.lines.now (g.S.Source.rest c.args.source.now)) _ (search rules) refl

pub returns-in_err-kind-clause-fault : goal.returns-in_err-kind-clause-fault
returns-in_err-kind-clause-fault g c =
    let failed : c.from_residual-in_err-kind.result ≡ Err c.in_err-kind.field-0.0 = search rules in
    subst (λ r. IfErr r (λ f. IsOfInput f → NoLine (c.args.lines.now.number + 1)
    (cut_left c.args.lines.now (g.S.Source.rest c.args.source.now)) (Err f))) (sym failed)
    (λ exact. line-fails (c.args.lines.now.number + 1) c.next_line.new.self.number
    (cut_left c.args.lines.now (g.S.Source.rest c.args.source.now))
    (cut_left c.next_line.new.self (g.S.Source.rest c.next_line.new.source)) c.next_line.new.self.line _ (search rules) (search rules)
    (spells-none c.next_line.new.self.number (script_line_of c.next_line.new.self.line) c.read_script_line.result _
    (search rules) (search rules) exact))

pub returns-clause-line : goal.returns-clause-line
returns-clause-line g c =
    line-asks (c.args.lines.now.number + 1) c.next_line.new.self.number
    (cut_left c.args.lines.now (g.S.Source.rest c.args.source.now))
    (cut_left c.next_line.new.self (g.S.Source.rest c.next_line.new.source)) c.next_line.new.self.line
    (line_of c.in_ok-kind.kind c.read_script_line.new.event) (search rules) (search rules)
    (spells (λ kind. line_of kind c.read_script_line.new.event) c.next_line.new.self.number
    (script_line_of c.next_line.new.self.line) c.read_script_line.result c.in_ok-kind.kind (search rules) (search rules))

pub returns-clause-at : goal.returns-clause-at
returns-clause-at g c =
    spells (λ kind. line_of kind c.read_script_line.new.event) c.next_line.new.self.number
    (script_line_of c.next_line.new.self.line) c.read_script_line.result c.in_ok-kind.kind (search rules) (search rules)
