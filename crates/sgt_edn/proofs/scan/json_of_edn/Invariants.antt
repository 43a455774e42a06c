use Rattle.std.proofs.Common.{◌≡◌, ◌++◌, drop}
use Rattle.sgt_edn.specs.Scans.{text_from, json_of_edn}
use Rattle.sgt_edn.proofs.scan.json_of_edn.Given as goal

-- what is written, and the text of the rest
abbrev pub invariant-loop-byte : goal.invariant-loop-byte
invariant-loop-byte l = l.json.items ++ text_from l.scan l.token.items (drop l.byte-index l.text) ≡ json_of_edn l.text
