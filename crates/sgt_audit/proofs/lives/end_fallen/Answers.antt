use Rattle.std.proofs.Common.{true, cond, nat_eq, slice_get, ap, ◌∙◌}
use Rattle.std.specs.List.{list_any}
use Rattle.std.specs.Option.{option_map}
use Rattle.std.proofs.lemmas.List.{take_all}
use Rattle.sgt_audit.specs.Lives.{ended_life}
use Rattle.sgt_audit.proofs.Rows.{fallen_more}
use Rattle.sgt_audit.proofs.lives.end_fallen.Goals as goal

pub loop-t-preserved : goal.loop-t-preserved
loop-t-preserved c = record {
  rows = λ u. fallen_more c.args.number c.args.fell.now c.loop-t.t-index c.t-item.result u (slice_get c.args.lives.now.items u)
      (slice_get c.loop-t.lives.items u) (slice_get c.end_one.new.lives.items u) c.loop-t-test.true c.t-item.is
      (c.loop-t.invariant.rows u) (c.end_one.ensures.rows u);
  count = c.end_one.ensures.count ∙ c.loop-t.invariant.count;
}

pub returns-clause-rows : goal.returns-clause-rows
returns-clause-rows c u = c.loop-t.invariant.rows u
    ∙ ap (λ fell. option_map (λ life. cond (list_any (λ v. nat_eq v u) fell) (ended_life c.args.number true life) life)
    (slice_get c.args.lives.now.items u)) (take_all c.loop-t.t-index c.args.fell.now c.loop-t-test.false)
