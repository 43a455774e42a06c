use Rattle.std.proofs.Common.{◌≡◌, ◌++◌, take}
use Rattle.sgt_format.specs.DatabaseText.{database_text}
use Rattle.sgt_format.proofs.database_text.append_rows.Given as goal

abbrev pub invariant-loop-key : goal.invariant-loop-key
invariant-loop-key l = l.text.items ≡ l.fn.text.items ++ database_text (take l.key-index l.rows)
