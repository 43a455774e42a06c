use Rattle.sgt_sched.proofs.Renewed.{reopened_kept, reopened_new}
use Rattle.sgt_sched.proofs.sched.Sched.reopen.Goals as goal

pub invariant_of-self : goal.invariant_of-self
invariant_of-self g c = rw c.clear.ensures (record {
  kept = reopened_kept c.args.self.now.kept c.requires.none_live _ c.in_ok-self.ensures.chain;
})

pub returns-clause-new : goal.returns-clause-new
returns-clause-new g c = rw c.clear.ensures (
    reopened_new c.args.self.now.kept c.requires.none_live _ c.in_ok-self.ensures.chain _ c.in_ok-self.ensures.settled)
