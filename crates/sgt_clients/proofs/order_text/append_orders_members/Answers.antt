use Rattle.std.proofs.Common.{◌≡◌, ◌++◌, codes, OnOk, sym, subst}
use Rattle.sgt_check.proofs.Pieces.{grow}
use Rattle.sgt_clients.specs.OrderText.{kept_member, orders_members}
use Rattle.sgt_clients.proofs.Stored.{on_ok}
use Rattle.sgt_clients.proofs.order_text.append_orders_members.Goals as goal

pub returns-in_ok-append_member-in-Some : goal.returns-in_ok-append_member-in-Some
returns-in_ok-append_member-in-Some c =
    let start = c.args.text.now.items in
    let saw = c.args.clients.now in
    let o = c.in-Some.kept in
    subst (λ x. OnOk c.append_member-in-Some.result (c.append_member-in-Some.new.text.items ≡ start ++ orders_members saw x)) (sym c.in-Some.is)
    (on_ok c.append_member-in-Some.result _ _ (λ more.
    grow start c.append_member.new.text.items c.append_member-in-Some.new.text.items
    (kept_member (codes "strong") saw o.strong) (kept_member (codes "session") saw o.session)
    c.in_ok-append_member-in-Some.ensures more)
    c.append_member-in-Some.ensures)
