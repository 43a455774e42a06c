use Rattle.std.proofs.Common.{rules, ◌≡◌, ◌<◌, slice_index_or, subst, arith}
use Rattle.std.proofs.lemmas.Bool.{eqb-true}
use Rattle.std.proofs.lemmas.Bool.Decides.{nat_tests}
use Rattle.sgt_levels.specs.declared.tie.Tie.{Tie}
use Rattle.sgt_appends.specs.declared.witness.Reason.TheVariants.{Seen}
use Rattle.sgt_levels.specs.declared.tie.Ground.TheVariants.{Observed}
use Rattle.sgt_levels.specs.Ties.{StepOf}
use Rattle.sgt_levels.proofs.Steps.{reach_on, path_back}
use Rattle.sgt_levels.proofs.tie.is_cycle.Goals as goal

pub loop-tie-preserved : goal.loop-tie-preserved
loop-tie-preserved c =
    let e : Tie = slice_index_or c.args.ties.now c.loop-tie.tie-index (record { from = 0; to = 0; ground = Observed (Seen 0 0) }) in
    let first : Tie = slice_index_or c.args.ties.now 0 (record { from = 0; to = 0; ground = Observed (Seen 0 0) }) in
    let same : e.from ≡ c.loop-tie.at = search rules in
    reach_on (StepOf c.args.history.now c.args.kind) c.loop-tie.tie-index first.from c.loop-tie.at e.to c.loop-tie.invariant
    (subst (λ u. StepOf c.args.history.now c.args.kind u e.to) same (c.is_step.ensures c.if-not-is_step.false))

pub returns : goal.returns
returns c = λ yes.
    let first : Tie = slice_index_or c.args.ties.now 0 (record { from = 0; to = 0; ground = Observed (Seen 0 0) }) in
    let some : 0 < c.loop-tie.tie-index = grind (arith, nat_tests, c.is_empty.ensures, c.if-is_empty.false, c.loop-tie-test.false) in
    let back = path_back (StepOf c.args.history.now c.args.kind) c.loop-tie.tie-index first.from c.loop-tie.at some c.loop-tie.invariant
    (eqb-true c.loop-tie.at first.from yes) in
    (first.from, back.0, back.1)
