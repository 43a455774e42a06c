use Rattle.sgt_sched.proofs.Endings.{replies_agree, call_counts}
use Rattle.sgt_sched.proofs.laws.endings_agree.Goals as goal

pub returns : goal.returns
returns c = record {
  replies = λ rules event before r after done. replies_agree rules event before r after done;
  counts = call_counts;
}
