use Rattle.sgt_progress.proofs.Waits.{waits_stay_ready, ends_are_ready}
use Rattle.sgt_progress.proofs.laws.waits_stay_ready.Goals as goal

pub returns : goal.returns
returns c = record { waits = waits_stay_ready; ends = ends_are_ready }
