use Rattle.std.proofs.Common.{◌≡◌, drop}
use Rattle.sgt_edn.specs.Tokens.{are_digits}
use Rattle.sgt_edn.proofs.token.are_digits.Given as goal

abbrev pub invariant-loop-byte : goal.invariant-loop-byte
invariant-loop-byte l = are_digits (drop l.byte-index l.bytes) ≡ are_digits l.bytes
