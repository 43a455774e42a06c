use Rattle.sgt_sched.proofs.Aborted.{falls_listed}
use Rattle.sgt_sched.specs.Scheduler.{state}
use Rattle.sgt_sched.proofs.sched.Sched.readers_of.Goals as goal

pub returns : goal.returns
returns g c = falls_listed c.args.self.now.limits.live
    (state c.args.self.now) c.args.t c.fallers.result c.numbers.result c.as_slice.result.now c.args.self.now.kept.sound c.numbers.ensures
    c.as_slice.ensures.value c.fallers.ensures.rising c.fallers.ensures.exact
