use Rattle.std.proofs.Common.{◌≡◌, ◌-◌, ◌≤◌, length, take, drop}
use Rattle.std.specs.List.{All}
use Rattle.sgt_c.specs.ManyRuns.{IsStartable}
use Rattle.sgt_c.specs.ReplayedCalls.{AreReported}
use Rattle.sgt_c.proofs.replayed_calls.pass.Given as goal

abbrev pub invariant-loop-next : goal.invariant-loop-next
invariant-loop-next l = record {
  reported : AreReported l.history.entries l.from l.to l.count l.next;
  requested : All IsStartable (take l.count l.to);
  onward : l.from ≤ l.next;
  within : l.next ≤ length l.history.entries;
  fits : l.count ≤ length l.to;
  capacity : length l.to ≡ length l.initial.to;
  rest : drop l.count l.to ≡ drop l.count l.initial.to;
}

abbrev pub decreases-loop-next : goal.decreases-loop-next
decreases-loop-next l = length l.history.entries - l.next
