use Rattle.sgt_proc.proofs.Sounds.{flawless_is_sound}
use Rattle.sgt_proc.proofs.laws.flawless_is_sound.Goals as goal

pub returns : goal.returns
returns c = flawless_is_sound
