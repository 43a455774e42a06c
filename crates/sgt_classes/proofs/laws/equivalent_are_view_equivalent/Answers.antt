use Rattle.sgt_classes.proofs.ViewEquivalence.{equivalent_view}
use Rattle.sgt_classes.proofs.laws.equivalent_are_view_equivalent.Goals as goal

pub returns : goal.returns
returns c = equivalent_view
