use Rattle.std.proofs.Common.{rules, ◌≡◌, ◌<◌, slice_index_or, sym, subst, arith}
use Rattle.std.proofs.lemmas.Bool.{eqb-true}
use Rattle.std.proofs.lemmas.Bool.Decides.{nat_tests}
use Rattle.sgt_levels.specs.declared.tie.Tie.{Tie}
use Rattle.sgt_appends.specs.declared.witness.Reason.TheVariants.{Seen}
use Rattle.sgt_levels.specs.declared.tie.Ground.TheVariants.{Observed}
use Rattle.sgt_levels.specs.Ties.{IsPending}
use Rattle.sgt_levels.proofs.Tied.{snapshot_closed}
use Rattle.sgt_levels.proofs.tie.rules_out_snapshot.Goals as goal

pub loop-tie-preserved : goal.loop-tie-preserved
loop-tie-preserved c =
    let e : Tie = slice_index_or c.args.ties.now c.loop-tie.tie-index (record { from = 0; to = 0; ground = Observed (Seen 0 0) }) in
    let first : Tie = slice_index_or c.args.ties.now 0 (record { from = 0; to = 0; ground = Observed (Seen 0 0) }) in
    let same : e.from ≡ c.loop-tie.at = search rules in
    c.in-Some.ensures c.loop-tie.tie-index first.from
    (subst (λ u. IsPending c.args.history.now c.loop-tie.tie-index first.from u c.loop-tie.waits) (sym same) c.loop-tie.invariant)

pub returns : goal.returns
returns c = λ yes.
    let first : Tie = slice_index_or c.args.ties.now 0 (record { from = 0; to = 0; ground = Observed (Seen 0 0) }) in
    let some : 0 < c.loop-tie.tie-index = grind (arith, nat_tests, c.is_empty.ensures, c.if-is_empty.false, c.loop-tie-test.false) in
    snapshot_closed c.args.history.now c.loop-tie.tie-index first.from c.loop-tie.at c.loop-tie.waits c.requires some c.loop-tie.invariant
    (eqb-true c.loop-tie.at first.from yes)
