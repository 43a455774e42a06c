use Rattle.sgt_textbook.proofs.ReadingFrom.{reads_agree}
use Rattle.sgt_textbook.proofs.laws.reads_agree.Goals as goal

pub returns : goal.returns
returns c = reads_agree
