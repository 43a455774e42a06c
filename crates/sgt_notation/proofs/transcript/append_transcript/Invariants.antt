use Rattle.std.proofs.Common.{◌≡◌, ◌++◌, take, reverse}
use Rattle.sgt_notation.specs.Transcripts.{transcript}
use Rattle.sgt_notation.proofs.transcript.append_transcript.Given as goal

-- the entries so far are written
abbrev pub invariant-loop-place : goal.invariant-loop-place
invariant-loop-place l = l.text.items ≡ l.fn.text.items ++ transcript (reverse (take l.place l.history.entries))
