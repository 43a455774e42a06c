use Rattle.std.specs.Prelude.{◌≡◌, drop}
use Rattle.sgt_notation.specs.Spellings.{are_item_bytes}
use Rattle.sgt_notation.proofs.spelled.are_item_bytes.Given as goal

abbrev pub invariant-loop-byte : goal.invariant-loop-byte
invariant-loop-byte l = are_item_bytes l.bytes ≡ are_item_bytes (drop l.byte-index l.bytes)
