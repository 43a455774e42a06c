use Rattle.std.proofs.Common.{◌≡◌, ◌++◌, take}
use Rattle.sgt_clients.specs.AnomalyText.{anomalies_text}
use Rattle.sgt_clients.proofs.anomaly_text.append_anomalies.Given as goal

abbrev pub invariant-loop-seen : goal.invariant-loop-seen
invariant-loop-seen l = l.text.items ≡ l.fn.text.items ++ anomalies_text l.clients (take l.seen-index l.all)
