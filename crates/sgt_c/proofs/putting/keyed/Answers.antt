use Rattle.std.proofs.Common.{ap, ◌∙◌, map, arith}
use Rattle.std.proofs.lemmas.List.{take_all}
use Rattle.sgt_c.specs.Rows.{row_of}
use Rattle.sgt_c.proofs.RowSteps.{ranged_values}
use Rattle.sgt_c.proofs.putting.keyed.Goals as goal

pub returns-clause-values : goal.returns-clause-values
returns-clause-values c =
    rw (c.loop-row.invariant.rows ∙ ap (map row_of) (take_all c.loop-row.row-index c.args.rows.now (omega (arith, c.loop-row-test.false))))
    (ranged_values c.args.rows.now c.requires)
