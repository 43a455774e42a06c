use Rattle.std.proofs.Common.{rules, refl, arith}
use Rattle.sgt_c.proofs.RowSteps.{all_ranged, none, ranged_next}
use Rattle.sgt_c.proofs.row_struct.first_bad.Goals as goal

pub loop-index-preserved : goal.loop-index-preserved
loop-index-preserved c =
    ranged_next c.args.rows.now c.loop-index.index none c.loop-index-test.true (search rules) c.loop-index.invariant

pub returns-clause-all : goal.returns-clause-all
returns-clause-all c = (
  (λ _. all_ranged c.args.rows.now c.loop-index.index (omega (arith, c.loop-index-test.false)) c.loop-index.invariant),
  (λ _. refl),
)
