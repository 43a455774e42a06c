use Rattle.std.proofs.Common.{◌≡◌, take}
use Rattle.std.specs.List.{flat_map}
use Rattle.sgt_audit.specs.AllOutcomes.{transactions_of}
use Rattle.sgt_audit.proofs.names.transactions_named.Given as goal

abbrev pub invariant-loop-outcome : goal.invariant-loop-outcome
invariant-loop-outcome g l = l.named.items ≡ flat_map (transactions_of l.history.entries) (take l.outcome-index l.outcomes)
