use Rattle.sgt_levels.proofs.Chosen.{seen_decided}
use Rattle.sgt_levels.proofs.laws.seen_are_decided.Goals as goal

pub returns : goal.returns
returns c = seen_decided
