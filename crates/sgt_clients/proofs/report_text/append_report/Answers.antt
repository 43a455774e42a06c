use Rattle.std.proofs.Common.{◌++◌, ◌∙◌, ap}
use Rattle.sgt_clients.specs.AnomalyText.{anomalies_text}
use Rattle.sgt_clients.specs.LevelText.{levels_text}
use Rattle.sgt_clients.specs.OrderText.{orders_text}
use Rattle.sgt_clients.specs.ReportText.{verdict_text}
use Rattle.sgt_clients.proofs.Stored.{on_ok}
use Rattle.sgt_check.proofs.Pieces.{grow}
use Rattle.sgt_clients.proofs.report_text.append_report.Goals as goal

pub returns : goal.returns
returns c =
    let start = c.args.text.now.items in
    let saw = c.args.clients.now in
    let f = c.args.found.now in
    let verdict = verdict_text c.args.strict saw f.finding in
    let levels = levels_text c.args.strict saw f in
    let orders = orders_text saw f.orders in
    on_ok c.append_anomalies.result _ _ (λ more.
    grow start c.append_orders.new.text.items c.append_anomalies.new.text.items (verdict ++ levels ++ orders) (anomalies_text saw f.anomalies.items)
    (grow start c.append_levels.new.text.items c.append_orders.new.text.items (verdict ++ levels) orders
    (grow start c.append_verdict.new.text.items c.append_levels.new.text.items verdict levels
    c.in_ok-append_verdict.ensures
    c.in_ok-append_levels.ensures)
    c.in_ok-append_orders.ensures)
    (more ∙ ap (λ all. c.append_orders.new.text.items ++ anomalies_text saw all) c.as_slice.ensures.value))
    c.append_anomalies.ensures
