use Rattle.std.proofs.Common.{◌≡◌, ◌++◌, take}
use Rattle.std.specs.List.{flat_map}
use Rattle.sgt_timeline.specs.PictureText.{line_text}
use Rattle.sgt_timeline.proofs.svg.append_lines.Given as goal

abbrev pub invariant-loop-line : goal.invariant-loop-line
invariant-loop-line l = l.text.items ≡ l.fn.text.items ++ flat_map line_text (take l.line-index l.lines)
