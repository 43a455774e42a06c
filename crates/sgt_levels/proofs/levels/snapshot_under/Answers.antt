use Rattle.sgt_levels.proofs.Answered.{not_snapshot}
use Rattle.sgt_levels.proofs.levels.snapshot_under.Goals as goal

pub returns-then-is_no : goal.returns-then-is_no
returns-then-is_no c = λ h right under. not_snapshot h (c.is_no.ensures h c.if-is_no.true right)
