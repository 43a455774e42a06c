use Rattle.sgt_classes.proofs.Inclusions.{avoiding_recoverable}
use Rattle.sgt_classes.proofs.laws.avoiding_are_recoverable.Goals as goal

pub returns : goal.returns
returns c = avoiding_recoverable
