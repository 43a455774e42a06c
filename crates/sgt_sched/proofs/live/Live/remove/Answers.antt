use Rattle.std.proofs.Common.{refl}
use Rattle.sgt_sched.proofs.Lives.{none_removed}
use Rattle.sgt_sched.proofs.live.Live.remove.Goals as goal

pub returns-in_default : goal.returns-in_default
returns-in_default c = none_removed c.args.t c.args.self.now c.args.self.now refl c.in_default.ensures
