use Rattle.std.proofs.Common.{◌∙◌}
use Rattle.sgt_sched.proofs.Renewed.{renewed_new, reopened_kept, reopened_new}
use Rattle.sgt_sched.proofs.sched.Sched.renew_without.Goals as goal

pub invariant_of-self : goal.invariant_of-self
invariant_of-self g c = rw c.clear.ensures (record {
  kept = reopened_kept c.args.self.now.kept c.requires.none_live _
      (λ k. c.forget_all.ensures.chain k ∙ (renewed_new c.args.self.now.kept c.requires.none_live).chain k);
})

pub returns-clause-new : goal.returns-clause-new
returns-clause-new g c = rw c.clear.ensures (
    reopened_new c.args.self.now.kept c.requires.none_live _
    (λ k. c.forget_all.ensures.chain k ∙ (renewed_new c.args.self.now.kept c.requires.none_live).chain k) _ c.forget_all.ensures.settled)
