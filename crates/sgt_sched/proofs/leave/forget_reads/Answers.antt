use Rattle.std.proofs.Common.{rules, ℕ, nat_eq, not, ◌&&◌}
use Rattle.std.proofs.lemmas.Fn.{filter_same}
use Rattle.sgt_sched.proofs.leave.forget_reads.Goals as goal

pub returns-then-not-is_empty : goal.returns-then-not-is_empty
returns-then-not-is_empty c = filter_same _ (λ (p : ℕ × ℕ). not (nat_eq p.0 c.args.t) && not (nat_eq p.1 c.args.t)) _
    (λ x b f call. search rules) _ _ c.retain.ensures.filtered
