use Rattle.sgt_classes.proofs.Inclusions.{rigorous_strict}
use Rattle.sgt_classes.proofs.laws.rigorous_are_strict.Goals as goal

pub returns : goal.returns
returns c = rigorous_strict
