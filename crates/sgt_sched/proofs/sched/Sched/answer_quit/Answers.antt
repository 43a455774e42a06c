use Rattle.std.proofs.Common.{refl}
use Rattle.sgt_sched.proofs.Stepped.{if_unended, not_live}
use Rattle.sgt_sched.proofs.sched.Sched.answer_quit.Goals as goal

pub returns-then-is_live : goal.returns-then-is_live
returns-then-is_live g c =
    let u = c.is_live.ensures.unended.0 c.if-is_live.true in
    record { turn = (if_unended _ _ _ _ _ _ u.begun u.unended) c.abort.ensures.turn; kept = c.abort.ensures.kept }

pub returns : goal.returns
returns g c = record {
  turn = not_live _ _ _ _ _ c.answer_not_live.ensures;
  kept = (refl, refl);
}
