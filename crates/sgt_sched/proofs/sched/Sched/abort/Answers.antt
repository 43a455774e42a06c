use Rattle.std.proofs.Common.{refl}
use Rattle.sgt_sched.proofs.sched.Sched.abort.Goals as goal

pub returns : goal.returns
returns g c = record {
  turn = record { fell = c.undo-lists.result; undo = c.undo-lists.ensures.undone; reply = refl };
  kept = c.undo-lists.ensures.kept;
}
