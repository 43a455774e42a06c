use Rattle.std.proofs.Common.{◌++◌, ◌∙◌, ap}
use Rattle.std.specs.Prelude.{codes}
use Rattle.sgt_check.specs.ReportText.{order_why}
use Rattle.sgt_check.proofs.Pieces.{on_ok, reported_no}
use Rattle.sgt_check.proofs.report_text.append_order_kept.Goals as goal

pub returns : goal.returns
returns c =
    on_ok c.append_broken.result _ _
    (λ more. more ∙ ap (λ l. c.args.text.now.items ++ l)
    (reported_no (codes "commit ordered") (order_why c.args.history.now) c.args.violation.now c.in-Some.violation c.in-Some.is))
    c.append_broken.ensures
