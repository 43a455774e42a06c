use Rattle.std.proofs.Common.{◌≡◌, ◌++◌, take}
use Rattle.std.specs.List.{flat_map}
use Rattle.sgt_clients.specs.ReportText.{tie_text}
use Rattle.sgt_clients.proofs.level_text.append_ties.Given as goal

abbrev pub invariant-loop-tie : goal.invariant-loop-tie
invariant-loop-tie l = l.text.items ≡ l.fn.text.items ++ flat_map (tie_text l.clients) (take l.tie-index l.ties)
