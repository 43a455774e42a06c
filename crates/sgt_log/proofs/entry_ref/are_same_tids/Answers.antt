use Rattle.std.proofs.lemmas.Slice.Eq.{slice_eq-Decides}
use Rattle.std.proofs.lemmas.Bool.Decides.{Decides-eqb}
use Rattle.sgt_log.proofs.entry_ref.are_same_tids.Goals as goal

pub returns : goal.returns
returns c = slice_eq-Decides Decides-eqb _ _ _ c.eq.ensures
