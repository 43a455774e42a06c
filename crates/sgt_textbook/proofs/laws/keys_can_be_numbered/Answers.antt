use Rattle.sgt_textbook.proofs.Numbering.{numbering}
use Rattle.sgt_textbook.proofs.laws.keys_can_be_numbered.Goals as goal

pub returns : goal.returns
returns c = numbering
