use Rattle.sgt_progress.proofs.Moves.{no_deadlock, no_wait_cycle}
use Rattle.sgt_progress.proofs.laws.no_deadlock.Goals as goal

pub returns : goal.returns
returns c = record { some = no_deadlock; waits = no_wait_cycle }
