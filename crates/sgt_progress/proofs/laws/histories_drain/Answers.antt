use Rattle.sgt_progress.proofs.Drains.{histories_drain, some_steps_drain, events_left_are_few}
use Rattle.sgt_progress.proofs.Checked.{checked_drain_soon}
use Rattle.sgt_progress.proofs.laws.histories_drain.Goals as goal

pub returns : goal.returns
returns c = record {
  all = histories_drain;
  some = some_steps_drain;
  few = events_left_are_few;
  checked = checked_drain_soon;
}
