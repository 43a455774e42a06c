use Rattle.std.specs.Prelude.{◌≡◌, map, take}
use Rattle.sgt_notation.specs.Readings.{shown_byte}
use Rattle.sgt_notation.proofs.fault.Shown.of.Given as goal

abbrev pub invariant-loop-byte : goal.invariant-loop-byte
invariant-loop-byte l = l.text.items ≡ map shown_byte (take l.byte-index l.byte-items)
