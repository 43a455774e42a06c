use Rattle.serde_json.specs.View.{view}
use Rattle.sgt_proc_json.proofs.Outcomes.{read_is_spelled, refused_spells_none}
use Rattle.sgt_proc_json.proofs.reader.read.Goals as goal

pub returns-clause-spells : goal.returns-clause-spells
returns-clause-spells c = read_is_spelled (view c.args.tree.now) c.read_tree.result c.read_tree.ensures.procedure

pub returns-clause-none : goal.returns-clause-none
returns-clause-none c = refused_spells_none (view c.args.tree.now) c.read_tree.result c.read_tree.ensures.shape
