use Rattle.sgt_textbook.proofs.Ends.{well_formed}
use Rattle.sgt_textbook.proofs.laws.legal_are_well_formed.Goals as goal

pub returns : goal.returns
returns c = well_formed c.aborts_have_cause.ensures
