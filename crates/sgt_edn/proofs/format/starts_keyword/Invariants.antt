use Rattle.std.proofs.Common.{◌≡◌, drop}
use Rattle.sgt_edn.specs.Scans.{starts_keyword}
use Rattle.sgt_edn.proofs.format.starts_keyword.Given as goal

abbrev pub invariant-loop-byte : goal.invariant-loop-byte
invariant-loop-byte l = starts_keyword (drop l.byte-index l.text) ≡ starts_keyword l.text
