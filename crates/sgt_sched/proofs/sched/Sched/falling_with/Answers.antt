use Rattle.std.proofs.Common.{subst, sym}
use Rattle.sgt_model.specs.FallsIn.{FallsIn}
use Rattle.sgt_model.specs.Paths.{Reaches}
use Rattle.sgt_model.specs.State.{Has}
use Rattle.sgt_sched.specs.Scheduler.{state}
use Rattle.sgt_sched.proofs.sched.Sched.falling_with.Goals as goal

pub returns-then-not-is_read_from : goal.returns-then-not-is_read_from
returns-then-not-is_read_from g c = subst (FallsIn (state c.args.self.now) c.args.t) (sym c.new.ensures) (record {
  rising = tt;
  each = λ u m. absurd m;
  all = λ u live other reached. absurd (c.is_read_from.ensures c.if-not-is_read_from.true u other
      (subst (λ r. Reaches (Has r) c.args.t u) (sym c.as_slice.ensures.value) reached));
})
