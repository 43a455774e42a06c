use Rattle.sgt_textbook.proofs.Rejections.{rejections_are_needed}
use Rattle.sgt_textbook.proofs.Cascades.{cascades_are_needed}
use Rattle.sgt_textbook.proofs.laws.aborts_are_needed.Goals as goal

pub returns : goal.returns
returns c = record { rejections = rejections_are_needed; cascades = cascades_are_needed }
