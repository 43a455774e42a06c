use Rattle.sgt_desk.proofs.Endings.{free_runs_end, others_end_then, runs_go_on}
use Rattle.sgt_desk.proofs.laws.runs_end.Goals as goal

pub returns : goal.returns
returns c = record { ends = free_runs_end; then = others_end_then; goes_on = runs_go_on }
