use Rattle.std.proofs.Common.{◌≡◌, ℕ, subst}
use Rattle.sgt_model.specs.Left.{next_left}
use Rattle.sgt_proc.specs.Nexts.{answers_at, seen_with}
use Rattle.sgt_sched.specs.LiveProgress.{Progress, left_kept}
use Rattle.sgt_sched.proofs.sched.Sched.ahead_at.Goals as goal

pub returns-clause-next : goal.returns-clause-next
returns-clause-next g c = subst
    (λ (r : ℕ × Progress). seen_with (answers_at (next_left (left_kept r.1))) c.ahead.result ≡ next_left (left_kept r.1))
    c.at.ensures c.ahead.ensures.next
