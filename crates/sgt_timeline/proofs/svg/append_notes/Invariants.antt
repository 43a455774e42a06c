use Rattle.std.proofs.Common.{◌≡◌, ◌++◌, take}
use Rattle.std.specs.List.{flat_map}
use Rattle.sgt_timeline.specs.PictureText.{note_text}
use Rattle.sgt_timeline.proofs.svg.append_notes.Given as goal

abbrev pub invariant-loop-note : goal.invariant-loop-note
invariant-loop-note l = l.text.items ≡ l.fn.text.items ++ flat_map note_text (take l.note-index l.notes)
