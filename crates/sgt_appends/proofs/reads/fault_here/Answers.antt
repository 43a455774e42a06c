use Rattle.std.proofs.Common.{rules}
use Rattle.sgt_appends.proofs.reads.fault_here.Goals as goal

pub returns-in-None-clause-clean : goal.returns-in-None-clause-clean
returns-in-None-clause-clean c = λ none k seen committed is. absurd (c.in-None.ensures.none (search rules) k seen committed is)
