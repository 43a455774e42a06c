use Rattle.std.proofs.Common.{rules, ◌≡◌, sym, subst}
use Rattle.sgt_appends.specs.declared.witness.Reason.TheVariants.{Seen, InOrder}
use Rattle.sgt_appends.specs.Witnesses.{IsShown}
use Rattle.sgt_appends.proofs.witness.is_shown.Goals as goal

pub returns-in-Seen : goal.returns-in-Seen
returns-in-Seen c = λ yes.
    let e = c.args.edge.now in
    let is : e.reason ≡ Seen c.in-Seen.append c.in-Seen.read = search rules in
    (search rules, subst (λ r. IsShown c.args.history.now e.from e.to r) (sym is) (c.is_seen.ensures yes))

pub returns-in-InOrder : goal.returns-in-InOrder
returns-in-InOrder c = λ yes.
    let e = c.args.edge.now in
    let is : e.reason ≡ InOrder c.in-InOrder.first c.in-InOrder.second c.in-InOrder.reader c.in-InOrder.read = search rules in
    (search rules, subst (λ r. IsShown c.args.history.now e.from e.to r) (sym is) (c.is_in_order.ensures yes))
