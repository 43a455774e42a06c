use Rattle.std.proofs.Common.{rules}
use Rattle.sgt_levels.proofs.unseen.misses_at.Goals as goal

pub returns-in_default : goal.returns-in_default
returns-in_default c = λ yes seen committed is has. c.read_of.ensures.none (search rules) c.args.key seen committed is
