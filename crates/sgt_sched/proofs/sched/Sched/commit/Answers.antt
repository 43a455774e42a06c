use Rattle.std.proofs.Common.{sym, subst}
use Rattle.sgt_model.specs.CallEffects.{CommitEffect}
use Rattle.sgt_sched.specs.Scheduler.{state, asks_of}
use Rattle.sgt_sched.proofs.sched.Sched.commit.Goals as goal

pub returns : goal.returns
returns g c =
    let done = c.answer_commit in record {
      turn = subst (λ r. CommitEffect (asks_of c.args.self.now) c.args.t (state c.args.self.now) r (state done.new.self))
          (sym c.with_lists.ensures) done.ensures.turn;
      kept = done.ensures.kept;
    }
