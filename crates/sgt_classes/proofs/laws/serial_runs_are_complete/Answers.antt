use Rattle.sgt_classes.proofs.ViewEquivalence.{serial_run_complete}
use Rattle.sgt_classes.proofs.laws.serial_runs_are_complete.Goals as goal

pub returns : goal.returns
returns c = serial_run_complete
