use Rattle.std.proofs.Common.{rules}
use Rattle.sgt_desk.proofs.plan.Plan.next.Goals as goal

pub returns-in-None-clause-turn : goal.returns-in-None-clause-turn
returns-in-None-clause-turn c = record {
  cut = search rules;
  pause = λ until. (
    λ e. (search rules, search rules, (c.begin_pause.ensures.pause until).0 e),
    λ h. (c.begin_pause.ensures.pause until).1 h.2,
  );
  paused = search rules;
  at = search rules;
  cut_next = search rules;
  nothing = search rules;
  put_off = search rules;
  not_due = search rules;
  same = search rules;
}
