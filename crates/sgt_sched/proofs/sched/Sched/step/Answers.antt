use Rattle.std.proofs.Common.{refl, sym, subst}
use Rattle.sgt_model.specs.CallEffects.{StepEffect}
use Rattle.sgt_sched.specs.Scheduler.{state, asks_of}
use Rattle.sgt_sched.proofs.sched.Sched.step.Goals as goal

pub returns : goal.returns
returns g c = record {
  done = record {
    done = subst (λ r. StepEffect (asks_of c.args.self.now) c.args.t (state c.args.self.now) r (state c.answer_step.new.self))
        (sym c.with_lists.ensures) c.in_ok-reply.ensures.done.done;
    refused = tt;
    kept = c.answer_step.ensures.done.kept;
  };
  no_memory = λ ends. refl;
}
