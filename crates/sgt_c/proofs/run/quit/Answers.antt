use Rattle.std.proofs.Common.{refl, ap, sym, ◌∙◌}
use Rattle.std.proofs.lemmas.Bool.{true≢false}
use Rattle.std.specs.Result.{is_ok}
use Rattle.sgt_c.proofs.run.quit.Goals as goal

pub unreachable-requires : goal.unreachable-requires
unreachable-requires c = true≢false (sym (c.answer_inline.ensures.quits c.args.t refl c.requires) ∙ ap is_ok c.in-Err.is)
