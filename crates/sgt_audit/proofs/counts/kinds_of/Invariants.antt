use Rattle.std.proofs.Common.{◌≡◌, take}
use Rattle.std.specs.List.{count_by}
use Rattle.sgt_audit.specs.AllOutcomes.{is_done, is_left, is_untaken, is_no_memory}
use Rattle.sgt_audit.proofs.counts.kinds_of.Given as goal

abbrev pub invariant-loop-outcome : goal.invariant-loop-outcome
invariant-loop-outcome g l = record {
  done : l.kinds.done ≡ count_by is_done (take l.outcome-index l.outcomes);
  left : l.kinds.left ≡ count_by is_left (take l.outcome-index l.outcomes);
  untaken : l.kinds.untaken ≡ count_by is_untaken (take l.outcome-index l.outcomes);
  no_memory : l.kinds.no_memory ≡ count_by is_no_memory (take l.outcome-index l.outcomes);
}
