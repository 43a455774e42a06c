use Rattle.sgt_textbook.proofs.Examples.{some_cascade}
use Rattle.sgt_textbook.proofs.laws.some_histories_cascade.Goals as goal

pub returns : goal.returns
returns c = some_cascade
