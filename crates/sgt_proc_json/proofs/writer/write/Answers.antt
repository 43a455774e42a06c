use Rattle.serde_json.specs.View.{view}
use Rattle.sgt_model.specs.ProcedureTexts.{procedure_text}
use Rattle.sgt_proc_json.proofs.SpelledIsRead.{read_spelled}
use Rattle.sgt_proc_json.proofs.writer.write.Goals as goal

pub returns-clause-reads_back : goal.returns-clause-reads_back
returns-clause-reads_back c = read_spelled (procedure_text c.args.procedure.now) (view c.in_ok-tree.tree) c.in_ok-tree.ensures
