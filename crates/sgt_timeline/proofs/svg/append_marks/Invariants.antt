use Rattle.std.proofs.Common.{◌≡◌, ◌++◌, take}
use Rattle.std.specs.List.{flat_map}
use Rattle.sgt_timeline.specs.PictureText.{mark_text}
use Rattle.sgt_timeline.proofs.svg.append_marks.Given as goal

abbrev pub invariant-loop-mark : goal.invariant-loop-mark
invariant-loop-mark l = l.text.items ≡ l.fn.text.items ++ flat_map (mark_text l.history) (take l.mark-index l.marks)
