use Rattle.std.proofs.Common.{subst}
use Rattle.sgt_levels.specs.Ties.{IsPending}
use Rattle.sgt_levels.proofs.Tied.{pending_depends, pending_misses}
use Rattle.sgt_levels.proofs.tie.step.Goals as goal

pub returns-then-depends : goal.returns-then-depends
returns-then-depends c = λ i t pending.
    pending_depends c.args.history.now i t c.args.tie.now.from c.args.tie.now.to c.args.waits pending (c.depends.ensures c.if-depends.true)

pub returns-then-misses : goal.returns-then-misses
returns-then-misses c = λ i t pending.
    pending_misses c.args.history.now i t c.args.tie.now.from c.args.tie.now.to
    (subst (λ b. IsPending c.args.history.now i t c.args.tie.now.from b) c.if-waits.true pending)
    (c.misses.ensures c.if-misses.true)
