-- Each legal history makes progress.
use Rattle.sgt_progress.specs.Progress.{HistoriesMakeProgress}
use Rattle.sgt_progress.proofs.Moves.{no_deadlock, no_wait_cycle}
use Rattle.sgt_progress.proofs.Alone.{alone_ends_by_itself}
use Rattle.sgt_progress.proofs.Drains.{histories_drain, alone_ends}

pub histories_make_progress : HistoriesMakeProgress
histories_make_progress s past legal = record {
  no_deadlock = no_deadlock s past legal;
  no_wait_cycle = (no_wait_cycle s past legal).no_cycle;
  drains = histories_drain s past legal;
  alone_ends = alone_ends s past legal;
  alone_by_itself = alone_ends_by_itself s past legal;
}
