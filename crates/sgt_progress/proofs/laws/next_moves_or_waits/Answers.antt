use Rattle.sgt_progress.proofs.Moves.{next_moves_or_waits, requests_move}
use Rattle.sgt_progress.proofs.laws.next_moves_or_waits.Goals as goal

pub returns : goal.returns
returns c = record { next = next_moves_or_waits; requested = requests_move }
