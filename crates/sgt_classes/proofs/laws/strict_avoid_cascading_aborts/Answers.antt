use Rattle.sgt_classes.proofs.Inclusions.{strict_avoids}
use Rattle.sgt_classes.proofs.laws.strict_avoid_cascading_aborts.Goals as goal

pub returns : goal.returns
returns c = strict_avoids
