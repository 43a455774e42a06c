use Rattle.sgt_classes.proofs.ViewEquivalence.{equivalence_laws}
use Rattle.sgt_classes.proofs.laws.equivalence_laws.Goals as goal

pub returns : goal.returns
returns c = equivalence_laws
