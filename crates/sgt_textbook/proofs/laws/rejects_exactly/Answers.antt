use Rattle.sgt_textbook.proofs.MayCommit.{rejects_exactly, cycles_are_live}
use Rattle.sgt_textbook.proofs.laws.rejects_exactly.Goals as goal

pub returns : goal.returns
returns c = record { exact = rejects_exactly; live = cycles_are_live }
