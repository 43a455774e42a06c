use Rattle.std.proofs.Common.{rules, ◌+◌, sym, subst, arith}
use Rattle.sgt_classes.specs.declared.operation.Action.TheVariants.{Commit}
use Rattle.sgt_classes.specs.Tables.{entry_of}
use Rattle.sgt_classes.proofs.Places.{operation_at, there, done_at}
use Rattle.sgt_classes.proofs.SerialRuns.{serial_order_runs}
use Rattle.sgt_classes.proofs.CommitOrders.{IsCommitOrder, order_begins, order_grows, order_stays, order_serial, some_of, none_of}
use Rattle.sgt_classes.proofs.commit_order.serial_commit_order.Goals.{then-eq+then-contains_key+in_ok-push, else-eq, else-eq-via-then-eq+else-contains_key, else-eq-via-else-eq}
use Rattle.sgt_classes.proofs.commit_order.serial_commit_order.Goals as goal

pub loop-place-init : goal.loop-place-init
loop-place-init c = subst (λ l. IsCommitOrder c.args.history.now 0 l (entry_of c.in_ok-left.left)) (sym c.new-order.ensures.items)
    (order_begins c.args.history.now (entry_of c.in_ok-left.left) c.in_ok-left.ensures)

pub loop-place-preserved : goal.loop-place-preserved
loop-place-preserved c =
    let h = c.args.history.now in
    let p = c.loop-place.place in
    let op = operation_at h p in
    elim c.if-eq.branch [
      | then-eq+then-contains_key+in_ok-push w ↦
          let one = some_of (entry_of c.loop-place.left op.transaction) (search rules) in
          subst (λ m. IsCommitOrder h (p + 1) c.if-eq.order.items (entry_of m)) (sym w.left-is)
          (subst (λ v. IsCommitOrder h (p + 1) v.items (entry_of w.remove.new.self)) (sym w.order-is)
          (subst (λ l. IsCommitOrder h (p + 1) l (entry_of w.remove.new.self)) (sym w.in_ok-push.ensures.items)
          (order_grows h p op.transaction one.0 c.loop-place.order.items (entry_of c.loop-place.left) (entry_of w.remove.new.self)
          c.requires (done_at h p Commit c.loop-place-test.true (search rules)) one.1 w.remove.ensures.at w.remove.ensures.others
          c.loop-place.invariant)))
      | else-eq w ↦
          subst (λ m. IsCommitOrder h (p + 1) c.if-eq.order.items (entry_of m)) (sym w.left-is)
          (subst (λ v. IsCommitOrder h (p + 1) v.items (entry_of c.loop-place.left)) (sym w.order-is)
          (order_stays h p op c.loop-place.order.items (entry_of c.loop-place.left) (there h p c.loop-place-test.true)
          (elim w.else-eq.branch [
            | else-eq-via-then-eq+else-contains_key v ↦ λ is. none_of (entry_of c.loop-place.left op.transaction) (search rules)
            | else-eq-via-else-eq v ↦ λ is. absurd (search rules)
          ])
          c.loop-place.invariant))
    ]

pub returns-clause-serial : goal.returns-clause-serial
returns-clause-serial c = (order_serial c.args.history.now c.loop-place.place c.loop-place.order.items (entry_of c.loop-place.left)
    (omega (arith, c.loop-place-test.false)) c.loop-place.invariant).0

pub returns-clause-first : goal.returns-clause-first
returns-clause-first c = (order_serial c.args.history.now c.loop-place.place c.loop-place.order.items (entry_of c.loop-place.left)
    (omega (arith, c.loop-place-test.false)) c.loop-place.invariant).1

pub returns-clause-equivalent : goal.returns-clause-equivalent
returns-clause-equivalent c = serial_order_runs c.args.history.now c.loop-place.order.items
    (order_serial c.args.history.now c.loop-place.place c.loop-place.order.items (entry_of c.loop-place.left)
    (omega (arith, c.loop-place-test.false)) c.loop-place.invariant).0
