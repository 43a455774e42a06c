use Rattle.std.proofs.Common.{◌∙◌, ap, take}
use Rattle.sgt_input.specs.Intake.{has_whole_line}
use Rattle.sgt_input.proofs.Breaks.{whole-is}
use Rattle.sgt_input.proofs.lines.Lines.has_line.Goals as goal

pub returns : goal.returns
returns c = whole-is (take c.self.inside.within c.self.inside.buffer.held) _ c.self.invariant.are ∙ ap has_whole_line c.self.view_is
