use Rattle.sgt_proc_json.proofs.SpelledIsRead.{read_spelled}
use Rattle.sgt_proc_json.proofs.ReadIsSpelled.{spelled_read}
use Rattle.sgt_proc_json.proofs.laws.reading_is_spelling.Goals as goal

pub returns : goal.returns
returns c = λ p tree. (read_spelled p tree, spelled_read p tree)
