use Rattle.std.proofs.Common.{◌≡◌, ◌-◌, ◌≤◌, All, vec_len, vec_capacity}
use Rattle.crossbeam_channel.specs.Claims.{view, IsSeatAt}
use Rattle.crossbeam_channel.specs.Ends.{sends_on}
use Rattle.sgt_dispatch.specs.Logs.{first_log}
use Rattle.sgt_dispatch.specs.Ends.{queue_of, new_consumer}
use Rattle.sgt_dispatch.proofs.queue.consumers_of.Given as goal

abbrev pub invariant-loop : goal.invariant-loop
invariant-loop l = record {
  seat : IsSeatAt (sends_on l.sender) l.pass;
  log : view l.pass ≡ record first_log { parts = 17 - l.counter };
  capacity : l.consumers ≤ vec_capacity l.list;
  count : vec_len l.list ≡ l.counter;
  consumers : All (λ consumer. consumer ≡ new_consumer (queue_of l.pass)) l.list.items;
}
