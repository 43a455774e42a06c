use Rattle.std.proofs.Common.{length}
use Rattle.sgt_session.proofs.session.+lend.Given as goal

abbrev pub decreases-lend : goal.decreases-lend
decreases-lend g l = length l.sessions.now
