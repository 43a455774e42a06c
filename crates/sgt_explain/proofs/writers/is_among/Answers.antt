use Rattle.std.proofs.Common.{sym, ◌∙◌}
use Rattle.sgt_model.proofs.Facts.{member_from, member_to}
use Rattle.sgt_explain.proofs.writers.is_among.Goals as goal

pub returns : goal.returns
returns c = (
  λ h. member_from c.args.t c.args.tids.now (sym c.contains.ensures.value ∙ h),
  λ m. c.contains.ensures.value ∙ member_to c.args.t c.args.tids.now m,
)
