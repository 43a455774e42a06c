use Rattle.std.proofs.Common.{sym, subst}
use Rattle.sgt_model.specs.CallEffects.{QuitEffect}
use Rattle.sgt_sched.specs.Scheduler.{state}
use Rattle.sgt_sched.proofs.sched.Sched.quit.Goals as goal

pub returns : goal.returns
returns g c =
    let done = c.answer_quit in record {
      turn = subst (λ r. QuitEffect c.args.t (state c.args.self.now) r (state done.new.self))
          (sym c.with_lists.ensures) done.ensures.turn;
      kept = done.ensures.kept;
    }
