use Rattle.std.proofs.Common.{get_or}
use Rattle.sgt_levels.proofs.Replayed.{snapshot_replay}
use Rattle.sgt_levels.proofs.replay.is_snapshot_run.Goals as goal

pub returns-in_ok-replays_snapshots-clause-run : goal.returns-in_ok-replays_snapshots-clause-run
returns-in_ok-replays_snapshots-clause-run c = λ yes.
    snapshot_replay c.args.history.now c.args.order.now (λ i. get_or c.args.starts.now i 0)
    (c.in_ok-names_each.ensures.once c.if-branch.true) (c.in_ok-names_each.ensures.committed c.if-branch.true)
    (c.in_ok-names_each.ensures.may_run c.if-branch.true) (c.in_ok-replays_snapshots.ensures yes)
