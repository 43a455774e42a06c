use Rattle.std.proofs.Common.{◌≡◌, drop}
use Rattle.sgt_clients.specs.ReportText.{parting}
use Rattle.sgt_clients.proofs.evidence.parting.Given as goal

abbrev pub invariant-loop-at : goal.invariant-loop-at
invariant-loop-at l = parting l.values l.other ≡ parting (drop l.at l.values) (drop l.at l.other)
