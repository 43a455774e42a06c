use Rattle.sgt_sched.proofs.Added.{pushed_kept}
use Rattle.sgt_sched.proofs.sched.Sched.add_procedure.Goals as goal

pub invariant_of-self : goal.invariant_of-self
invariant_of-self g c = record {
  kept = pushed_kept c.args.self.now.kept c.args.procedure c.push.result c.push.new.self c.push.ensures.ok c.push.ensures.err;
}
