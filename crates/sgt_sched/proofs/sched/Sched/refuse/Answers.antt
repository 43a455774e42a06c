use Rattle.std.proofs.Common.{refl, sym, ◌∙◌}
use Rattle.std.proofs.lemmas.Bool.{true≢false}
use Rattle.sgt_sched.proofs.sched.Sched.refuse.Goals as goal

pub returns : goal.returns
returns g c = record {
  turn = record {
    first = λ u h. true≢false (sym h ∙ c.requires.first u);
    fell = c.undo-lists.result;
    undo = c.undo-lists.ensures.undone;
    reply = refl;
  };
  kept = c.undo-lists.ensures.kept;
}
