use Rattle.std.proofs.Common.{Ok, ap, subst, ◌∙◌}
use Rattle.serde_json.specs.View.{view}
use Rattle.sgt_proc_json.specs.Spelling.{Spells}
use Rattle.sgt_c.proofs.TreeDepths.{spelled_line}
use Rattle.sgt_c.proofs.procedure_text.line_of.Goals as goal

pub returns : goal.returns
returns c =
    spelled_line c.in_ok-to_vec.field-0.items c.args.procedure.now (view c.in_ok-tree.tree)
    (subst (λ p. Spells p (view c.in_ok-tree.tree)) c.procedure.ensures c.in_ok-tree.ensures.spells)
    (c.in_ok-tree.ensures.reads_back ∙ ap Ok c.procedure.ensures) c.args-2.ensures.flawless c.in_ok-to_vec.ensures.utf8
    c.in_ok-to_vec.ensures.reads_back
