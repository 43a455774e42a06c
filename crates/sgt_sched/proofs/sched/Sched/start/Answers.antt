use Rattle.std.proofs.Common.{sym, subst}
use Rattle.sgt_model.specs.CallEffects.{StartEffect}
use Rattle.sgt_sched.specs.Scheduler.{state, rules_of}
use Rattle.sgt_sched.proofs.sched.Sched.start.Goals as goal

pub returns : goal.returns
returns g c = record {
  done = subst (λ r. StartEffect (rules_of c.args.self.now) c.args.procedure c.args.args.now (state c.args.self.now) r
      (state c.answer_start.new.self)) (sym c.with_lists.ensures) (c.in_ok-answer_start.ensures.done _);
  refused = tt;
  kept = c.answer_start.ensures.kept;
}
