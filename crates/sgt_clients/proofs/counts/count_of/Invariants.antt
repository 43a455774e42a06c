use Rattle.std.proofs.Common.{◌≡◌, ◌≤◌, take}
use Rattle.std.specs.Prelude.{count_by}
use Rattle.sgt_clients.specs.ReportText.{has_status}
use Rattle.sgt_clients.proofs.counts.count_of.Given as goal

abbrev pub invariant-loop-transaction : goal.invariant-loop-transaction
invariant-loop-transaction l = record {
  counted : l.counted ≡ count_by (has_status l.status) (take l.transaction-index l.history);
  few : l.counted ≤ l.transaction-index;
}
