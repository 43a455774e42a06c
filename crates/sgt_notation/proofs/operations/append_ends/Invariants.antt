use Rattle.std.proofs.Common.{◌≡◌, ◌++◌, take}
use Rattle.sgt_notation.specs.Transcripts.{end_lines}
use Rattle.sgt_notation.proofs.operations.append_ends.Given as goal

-- those so far have ended
abbrev pub invariant-loop-t : goal.invariant-loop-t
invariant-loop-t l = l.text.items ≡ l.fn.text.items ++ end_lines l.letter (take l.t-index l.tids)
