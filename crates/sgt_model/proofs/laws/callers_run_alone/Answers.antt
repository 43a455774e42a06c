use Rattle.sgt_model.proofs.Callers.{callers_run_alone, callers_exist, procedures_run_alone}
use Rattle.sgt_model.proofs.laws.callers_run_alone.Goals as goal

pub returns : goal.returns
returns c = record {
  callers = callers_run_alone;
  exist = callers_exist;
  procedures = procedures_run_alone;
}
