use Rattle.sgt_sched.proofs.Renewed.{renewed_kept, renewed_new}
use Rattle.sgt_sched.proofs.sched.Sched.renew.Goals as goal

pub invariant_of-self : goal.invariant_of-self
invariant_of-self g c = rw c.clear.ensures (record { kept = renewed_kept c.args.self.now.kept c.requires.none_live })

pub returns-clause-new : goal.returns-clause-new
returns-clause-new g c = rw c.clear.ensures (renewed_new c.args.self.now.kept c.requires.none_live)
