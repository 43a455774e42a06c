use Rattle.std.proofs.Common.{rules, ◌≡◌, ◌≢◌, ℕ, Some, None, IfSome, sym, subst}
use Rattle.std.specs.Prelude.{slice_get}
use Rattle.sgt_classes.specs.Tables.{entry_of}
use Rattle.sgt_classes.specs.Serializability.{IsCycle, IsSerialOrder, ReachAll}
use Rattle.sgt_classes.specs.Sorting.{IsFirstFree}
use Rattle.sgt_classes.proofs.Orderings.{AreOrdered, none_ordered, one_ordered, all_ordered}
use Rattle.sgt_classes.proofs.Witnesses.{serial_order_acyclic, cycle_not_acyclic}
use Rattle.sgt_classes.proofs.SerialRuns.{serial_order_runs}
use Rattle.sgt_classes.proofs.EdgeDecisions.{cycle_enough}
use Rattle.sgt_classes.proofs.serial.Waits.sort.Goals as goal

pub loop-order-init : goal.loop-order-init
loop-order-init c =
    let h = c.args.history.now in
    let made = c.args.self.now in record {
      waits = c.requires.waits;
      ready = c.requires.ready;
      watched = c.requires.watched;
      wait = c.requires.wait;
      reach = c.requires.edges;
      ordered = subst (λ l. AreOrdered h made.edges.items l (entry_of made.left)) (sym c.new-order.ensures.items)
          (none_ordered h made.edges.items (entry_of made.left) c.requires.left);
    }

pub loop-order-preserved : goal.loop-order-preserved
loop-order-preserved c =
    let h = c.args.history.now in
    let t : ℕ = c.in-Some.transaction in
    let old = c.loop-order.self in
    let new = c.take_first.new.self in
    let inv = c.loop-order.invariant in
    let edges : old.edges.items ≡ new.edges.items = search rules in
    let free : IsFirstFree old.edges.items (entry_of old.left) t =
    subst (λ o. IfSome o (IsFirstFree old.edges.items (entry_of old.left))) c.in-Some.is c.in_ok-transaction.ensures.first in
    let none : entry_of new.left t ≡ None =
    subst (λ o. IfSome o (λ u. entry_of new.left u ≡ None)) c.in-Some.is c.in_ok-transaction.ensures.taken in
    let others : (u : ℕ) → u ≢ t → entry_of new.left u ≡ entry_of old.left u =
    subst (λ o. IfSome o (λ v. (u : ℕ) → u ≢ v → entry_of new.left u ≡ entry_of old.left u)) c.in-Some.is
    c.in_ok-transaction.ensures.others in record {
      waits = c.in_ok-transaction.ensures.waits;
      ready = c.in_ok-transaction.ensures.ready;
      watched = c.in_ok-transaction.ensures.watched;
      wait = c.in_ok-transaction.ensures.wait;
      reach = subst (λ l. ReachAll h l) edges inv.reach;
      ordered = subst (λ l. AreOrdered h l c.push.new.self.items (entry_of new.left)) edges
          (subst (λ l. AreOrdered h old.edges.items l (entry_of new.left)) (sym c.in_ok-push.ensures.items)
          (one_ordered h old.edges.items c.loop-order.order.items (entry_of old.left) (entry_of new.left) t inv.reach.are_edges
          inv.ordered free none others));
    }

pub returns-in_ok-cycle-in-Some-first_left-clause-shown : goal.returns-in_ok-cycle-in-Some-first_left-clause-shown
returns-in_ok-cycle-in-Some-first_left-clause-shown c =
    let h = c.args.history.now in
    let edges : c.take_first.new.self.edges.items ≡ c.loop-order.self.edges.items = search rules in
    let cycle : IsCycle h c.in_ok-cycle-in-Some-first_left.field-0.items = c.in_ok-cycle-in-Some-first_left.ensures h
    (λ k e at. c.loop-order.invariant.reach.are_edges k e (subst (λ l. slice_get l k ≡ Some e) edges at)) in
    (cycle, (cycle_enough h c.in_ok-cycle-in-Some-first_left.field-0.items cycle).1)

pub returns-in_ok-cycle-in-Some-first_left-clause-acyclic : goal.returns-in_ok-cycle-in-Some-first_left-clause-acyclic
returns-in_ok-cycle-in-Some-first_left-clause-acyclic c =
    let h = c.args.history.now in
    let edges : c.take_first.new.self.edges.items ≡ c.loop-order.self.edges.items = search rules in
    let cycle : IsCycle h c.in_ok-cycle-in-Some-first_left.field-0.items = c.in_ok-cycle-in-Some-first_left.ensures h
    (λ k e at. c.loop-order.invariant.reach.are_edges k e (subst (λ l. slice_get l k ≡ Some e) edges at)) in
    (λ never. absurd never, cycle_not_acyclic h c.in_ok-cycle-in-Some-first_left.field-0.items cycle)

-- with no transaction left, all are in order
serial : (c : goal.In-None) → IsSerialOrder c.args.history.now c.loop-order.order.items
serial c =
    let gone : (t : ℕ) → entry_of c.take_first.new.self.left t ≡ None = search rules in
    let same : c.take_first.new.self.left ≡ c.loop-order.self.left = search rules in
    all_ordered c.args.history.now c.loop-order.self.edges.items c.loop-order.order.items (entry_of c.loop-order.self.left)
    c.loop-order.invariant.reach c.loop-order.invariant.ordered (subst (λ m. (t : ℕ) → entry_of m t ≡ None) same gone)

pub returns-in-None-clause-shown : goal.returns-in-None-clause-shown
returns-in-None-clause-shown c =
    (serial c, c.loop-order.invariant.ordered.takes_first, serial_order_runs c.args.history.now c.loop-order.order.items (serial c))

pub returns-in-None-clause-acyclic : goal.returns-in-None-clause-acyclic
returns-in-None-clause-acyclic c = (λ _. serial_order_acyclic c.args.history.now c.loop-order.order.items (serial c), λ _. tt)
