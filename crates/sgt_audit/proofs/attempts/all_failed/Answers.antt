use Rattle.std.proofs.Common.{refl, reverse, subst}
use Rattle.std.specs.List.{All}
use Rattle.std.proofs.lemmas.List.{take_all}
use Rattle.std.proofs.lemmas.List.Elements.{All-more}
use Rattle.sgt_audit.specs.Outcomes.{IsFailed}
use Rattle.sgt_audit.proofs.attempts.all_failed.Goals as goal

pub loop-t-preserved : goal.loop-t-preserved
loop-t-preserved c lives =
    let past = reverse c.args.history.now.entries in
    let failed : IsFailed past c.args.job.now c.t-item.result = (c.is_failed.ensures lives).0 c.if-not-is_failed.false in
    All-more (IsFailed past c.args.job.now) c.args.attempts.now c.loop-t.t-index c.t-item.result c.loop-t-test.true
    (c.loop-t.invariant lives) (subst (IsFailed past c.args.job.now) c.t-item.is failed)

pub returns : goal.returns
returns c lives = (
  (λ t. subst (All (IsFailed (reverse c.args.history.now.entries) c.args.job.now))
      (take_all c.loop-t.t-index c.args.attempts.now c.loop-t-test.false) (c.loop-t.invariant lives)),
  λ all. refl,
)
