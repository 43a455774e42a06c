use Rattle.std.proofs.Common.{◌++◌, ◌∙◌, ap}
use Rattle.std.specs.Prelude.{codes}
use Rattle.sgt_clients.specs.AnomalyText.{anomalies_member}
use Rattle.sgt_clients.specs.JsonText.{head_text}
use Rattle.sgt_clients.specs.LevelJson.{levels_members}
use Rattle.sgt_clients.specs.OrderText.{orders_members}
use Rattle.sgt_check.proofs.Pieces.{grow}
use Rattle.sgt_clients.proofs.json_text.append_json.Goals as goal

pub returns : goal.returns
returns c =
    let start = c.args.text.now.items in
    let saw = c.args.clients.now in
    let f = c.args.found.now in
    let head = head_text c.args.strict saw f.finding in
    let levels = levels_members c.args.strict saw f in
    let orders = orders_members saw f.orders in
    let anomalies = anomalies_member saw f.anomalies.items in
    grow start c.append_anomalies_member.new.text.items c.extend_from_slice.new.self.items (head ++ levels ++ orders ++ anomalies) (codes "}\n")
    (grow start c.append_orders_members.new.text.items c.append_anomalies_member.new.text.items (head ++ levels ++ orders) anomalies
    (grow start c.append_levels.new.text.items c.append_orders_members.new.text.items (head ++ levels) orders
    (grow start c.append_head.new.text.items c.append_levels.new.text.items head levels
    c.in_ok-append_head.ensures
    c.in_ok-append_levels.ensures)
    c.in_ok-append_orders_members.ensures)
    (c.in_ok-append_anomalies_member.ensures ∙ ap (λ all. c.append_orders_members.new.text.items ++ anomalies_member saw all) c.as_slice.ensures.value))
    c.in_ok-extend_from_slice.ensures.items
