use Rattle.sgt_model.proofs.Admissions.{committed_admitted}
use Rattle.sgt_model.proofs.laws.committed_are_admitted.Goals as goal

pub returns : goal.returns
returns c = committed_admitted
