use Rattle.sgt_progress.proofs.Rounds.{rounds_move, rounds_drain}
use Rattle.sgt_progress.proofs.laws.rounds_drain.Goals as goal

pub returns : goal.returns
returns c = record { moves = rounds_move; drain = rounds_drain }
