use Rattle.sgt_classes.specs.Tables.{entry_of}
use Rattle.sgt_classes.specs.Seen.{AreFirstCommits}
use Rattle.sgt_classes.proofs.commit_order.first_commits.Given as goal

abbrev pub invariant-loop-place : goal.invariant-loop-place
invariant-loop-place l = AreFirstCommits l.history l.place (entry_of l.commits)
