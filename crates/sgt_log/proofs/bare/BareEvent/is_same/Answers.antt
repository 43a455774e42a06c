use Rattle.std.proofs.Common.{rules}
use Rattle.sgt_log.proofs.bare.BareEvent.is_same.Goals as goal

pub returns : goal.returns
returns c = search rules
