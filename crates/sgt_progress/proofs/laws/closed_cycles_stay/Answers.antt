use Rattle.sgt_progress.proofs.Needed.{closed_cycles_stay, cycles_alone_are_rejected}
use Rattle.sgt_progress.proofs.laws.closed_cycles_stay.Goals as goal

pub returns : goal.returns
returns c = record { needed = closed_cycles_stay; exact = cycles_alone_are_rejected }
