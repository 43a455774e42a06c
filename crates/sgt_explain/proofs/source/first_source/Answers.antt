use Rattle.std.proofs.Common.{rules, arith}
use Rattle.sgt_explain.specs.Sources.{ReadsUndoneAt}
use Rattle.sgt_explain.proofs.FirstSources.{none_more, reads_by, reads_low, reads_standing, source_first}
use Rattle.sgt_explain.proofs.source.first_source.Goals as goal
use Rattle.sgt_explain.proofs.source.first_source.Goals.{in-Some+else-is_undone, in_default}

pub returns-then-is_undone-clause-reported : goal.returns-then-is_undone-clause-reported
returns-then-is_undone-clause-reported c =
    source_first c.args.history.now c.args.end c.args.reader c.loop-place.place c.in-Some.source (search rules)
    c.loop-place.invariant c.in-Some.ensures.reported (search rules)

pub loop-place-preserved : goal.loop-place-preserved
loop-place-preserved c =
    none_more (ReadsUndoneAt c.args.history.now c.args.end c.args.reader) c.loop-place.place c.loop-place.invariant
    (elim c.match-source_at.branch [
      | in-Some+else-is_undone w ↦
          reads_standing c.args.history.now c.args.end c.args.reader c.loop-place.place
          w.in-Some.source.source w.in-Some.ensures.some (search rules)
      | in_default w ↦
          reads_low c.args.history.now c.args.end c.args.reader c.loop-place.place c.first_undone-low.result c.first_undone-low.ensures (search rules)
    ])

pub returns-clause-none : goal.returns-clause-none
returns-clause-none c = λ m below reads. c.loop-place.invariant m (search rules) reads

pub loop-place-init : goal.loop-place-init
loop-place-init c m below reads =
    (c.first.ensures.none m (let is = c.min-place.ensures in omega (arith, is, below))).0 (reads_by c.args.history.now c.args.end c.args.reader m reads)
