use Rattle.std.proofs.Common.{◌≡◌, drop}
use Rattle.sgt_edn.specs.Scans.{is_edn}
use Rattle.sgt_edn.proofs.format.is_edn.Given as goal

abbrev pub invariant-loop-at : goal.invariant-loop-at
invariant-loop-at l = is_edn (drop l.at l.text) ≡ is_edn l.text
