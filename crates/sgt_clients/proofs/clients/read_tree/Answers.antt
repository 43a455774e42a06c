use Rattle.serde_json.specs.View.{view}
use Rattle.sgt_format.proofs.Views.{tree_of_read}
use Rattle.sgt_clients.proofs.clients.read_tree.Goals as goal

pub returns-then-is_object : goal.returns-then-is_object
returns-then-is_object c = tree_of_read c.args.text.now (view c.in-Ok.tree) c.in-Ok.ensures.ok.0 c.in-Ok.ensures.ok.1
