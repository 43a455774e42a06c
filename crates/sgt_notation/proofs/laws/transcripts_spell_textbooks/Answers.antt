use Rattle.sgt_notation.proofs.WrittenOperations.{spelled}
use Rattle.sgt_notation.proofs.laws.transcripts_spell_textbooks.Goals as goal

pub returns : goal.returns
returns c = spelled
