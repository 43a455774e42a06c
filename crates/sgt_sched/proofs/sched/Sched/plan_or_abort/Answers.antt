use Rattle.std.proofs.Common.{refl}
use Rattle.std.proofs.lemmas.Bool.{true≢false}
use Rattle.sgt_sched.proofs.sched.Sched.plan_or_abort.Goals as goal

pub returns-in-Free : goal.returns-in-Free
returns-in-Free g c = record {
  closes = λ h. absurd (true≢false h);
  free = (refl, refl, c.in-Free.ensures.plan.0, λ _. c.in-Free.ensures.plan.1);
  kept = (refl, refl);
}

pub returns-in-Closes : goal.returns-in-Closes
returns-in-Closes g c = record {
  closes = λ h. (
    c.in-Closes.cycle,
    c.in-Closes.ensures.plan,
    c.abort.ensures.turn,
  );
  free = tt;
  kept = c.abort.ensures.kept;
}
