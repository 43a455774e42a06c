use Rattle.std.proofs.Common.{◌≡◌, take, ap, sym, ◌∙◌}
use Rattle.sgt_format.specs.ScriptLines.{script_line_of}
use Rattle.sgt_format.proofs.LineTokens.{requested_event}
use Rattle.sgt_script.proofs.NextLines.{window-break, window-line}
use Rattle.sgt_script.proofs.script.takes_event_ahead.Goals as goal

pub pass-requires-clause-line : goal.pass-requires-clause-line
pass-requires-clause-line c =
    let from = c.args.lines.now in
    let found = c.in-Some-read_event_ahead in
    window-break (take from.within from.held) c.in-Some.window.now found.len c.in-Some.ensures.bytes c.in-Some.ensures.size
    found.ensures.end.0 found.ensures.end.1 found.ensures.unbroken

pub returns-clause-event : goal.returns-clause-event
returns-clause-event c = λ _.
    let from = c.args.lines.now in
    let found = c.in-Some-read_event_ahead in
    let line : c.pass.new.self.line ≡ take found.len c.in-Some.window.now =
    c.pass.ensures.line ∙ sym (window-line from.held c.in-Some.window.now from.within found.len c.in-Some.ensures.bytes
    c.in-Some.ensures.size found.ensures.end.0) in
    ap script_line_of line ∙ requested_event (take found.len c.in-Some.window.now) _ found.ensures.event
