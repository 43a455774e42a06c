use Rattle.std.proofs.Common.{subst, arith}
use Rattle.sgt_classes.specs.Seen.{KnowsSources}
use Rattle.sgt_classes.proofs.avoiding.Sources.note_until.Goals as goal

pub loop-earlier-init : goal.loop-earlier-init
loop-earlier-init c = c.requires.sources

pub loop-earlier-preserved : goal.loop-earlier-preserved
loop-earlier-preserved c = c.in_ok-record.ensures

pub returns : goal.returns
returns c = subst (λ n. KnowsSources c.args.history.now n c.loop-earlier.self)
    (omega (arith, c.loop-earlier-test.false, c.loop-earlier.auto.earlier-end)) c.loop-earlier.invariant
