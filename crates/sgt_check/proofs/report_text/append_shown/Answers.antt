use Rattle.std.proofs.Common.{◌++◌, ◌∙◌, ap, sym}
use Rattle.std.specs.Prelude.{codes}
use Rattle.sgt_check.specs.ReportText.{cycle_text, shown_text}
use Rattle.sgt_check.proofs.Pieces.{grow, on_ok}
use Rattle.sgt_check.proofs.report_text.append_shown.Goals as goal

pub returns-in_ok-extend_from_slice-in-Cycle : goal.returns-in_ok-extend_from_slice-in-Cycle
returns-in_ok-extend_from_slice-in-Cycle c =
    on_ok c.append_cycle.result _ _
    (λ more. grow c.args.text.now.items c.extend_from_slice-in-Cycle.new.self.items c.append_cycle.new.text.items (codes "serializable no:")
    (cycle_text c.args.history.now c.in-Cycle.edges.items) c.in_ok-extend_from_slice-in-Cycle.ensures.items
    (more ∙ ap (λ l. c.extend_from_slice-in-Cycle.new.self.items ++ cycle_text c.args.history.now l) c.as_slice-in-Cycle.ensures.value)
    ∙ ap (λ l. c.args.text.now.items ++ l) (sym (ap (shown_text c.args.history.now) c.in-Cycle.is)))
    c.append_cycle.ensures
