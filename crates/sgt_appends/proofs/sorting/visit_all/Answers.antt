use Rattle.std.proofs.Common.{refl, ◌∙◌, arith}
use Rattle.std.proofs.lemmas.Grind.{common_steps}
use Rattle.sgt_appends.proofs.Sortings.{none_sorted, none_ordered, all_rise}
use Rattle.sgt_appends.proofs.sorting.visit_all.Goals as goal

pub loop-node-init : goal.loop-node-init
loop-node-init c = record {
  sorted = none_sorted c.args.links.now c.chain.new.heads c.in_ok-before.before.items c.args.ranks.now c.in_ok-before.ensures.chained
      c.requires.within (c.in_ok-before.ensures.nodes ∙ c.requires.nodes) c.requires.unranked;
  ordered = none_ordered c.args.ranks.now c.args.order.now.items c.requires.empty c.requires.unranked;
  nodes = refl;
  marks = c.requires.marks;
  placed = λ v met. absurd (grind (arith, common_steps, met, c.requires.unmet v));
  met = λ v less. absurd (omega (arith, less));
}

pub returns-clause-rise : goal.returns-clause-rise
returns-clause-rise c = λ _.
    let inv = c.loop-node.invariant in
    all_rise c.args.links.now c.loop-node.heads c.in_ok-before.before.items c.loop-node.ranks inv.sorted
    (λ v less. inv.placed v (inv.met v (omega (arith, less, inv.nodes, c.loop-node-test.false))))
