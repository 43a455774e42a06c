use Rattle.sgt_classes.proofs.ViewEquivalence.{serial_run_reads}
use Rattle.sgt_classes.proofs.laws.serial_runs_read_alike.Goals as goal

pub returns : goal.returns
returns c = serial_run_reads
