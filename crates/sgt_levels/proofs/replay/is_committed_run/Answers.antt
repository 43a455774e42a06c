use Rattle.sgt_levels.proofs.Replayed.{committed_replay}
use Rattle.sgt_levels.proofs.replay.is_committed_run.Goals as goal

pub returns-in_ok-replays_commits : goal.returns-in_ok-replays_commits
returns-in_ok-replays_commits c = λ yes.
    committed_replay c.args.history.now c.args.order.now (c.in_ok-names_each.ensures.once c.if-branch.true)
    (c.in_ok-names_each.ensures.committed c.if-branch.true) (c.in_ok-names_each.ensures.may_run c.if-branch.true)
    (c.in_ok-replays_commits.ensures yes)
