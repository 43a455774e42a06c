use Rattle.std.proofs.Common.{◌≡◌, ◌++◌, take}
use Rattle.sgt_format.specs.RecordText.{record_lines}
use Rattle.sgt_format.proofs.record_text.append_record_lines.Given as goal

abbrev pub invariant-loop-key : goal.invariant-loop-key
invariant-loop-key l = l.text.items ≡ l.fn.text.items ++ record_lines (take l.key-index l.rows)
