use Rattle.std.proofs.Common.{◌≡◌, ◌+◌, ◌<◌, ◌^◌, ◌++◌, List, All, length}
use Rattle.std.specs.Sync.Forever.{forever_left}
use Rattle.sgt_session.specs.declared.receipt.Receipt.{Receipt}
use Rattle.sgt_session.specs.Receipts.{IsWaitOf}
use Rattle.sgt_session.proofs.session.Session.repeat_commit.Given as goal

abbrev pub invariant-loop : goal.invariant-loop
invariant-loop g l =
    (goal.iterator-loop g).can_next l.iterator' × (goal.iterator-loop g).is_finite l.iterator'
    × (l.count + forever_left l.iterator' < 2 ^ 64)
    × ((waits : List Receipt) × All (IsWaitOf l.t) waits × (l.count ≡ length waits) × (l.self ≡ l.initial.self ++ waits))
