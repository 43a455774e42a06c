use Rattle.std.proofs.Common.{◌≡◌}
use Rattle.sgt_model.specs.Contents.{Key}
use Rattle.sgt_sched.proofs.sched.renew.forget_all.Given as goal

-- nothing has changed so far
abbrev pub invariant-loop-key : goal.invariant-loop-key
invariant-loop-key g l = record {
  chain : (k : Key) → g.R.Records.chain l.records k ≡ g.R.Records.chain l.fn.records k;
  settled : (k : Key) → g.R.Records.settled l.records k ≡ g.R.Records.settled l.fn.records k;
}
