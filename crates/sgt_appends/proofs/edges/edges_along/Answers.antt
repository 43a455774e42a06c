use Rattle.std.proofs.Common.{arith}
use Rattle.std.proofs.lemmas.Grind.{common_steps}
use Rattle.std.proofs.lemmas.Option.{gets}
use Rattle.sgt_appends.proofs.Loops.{edges_one, edges_whole}
use Rattle.sgt_appends.proofs.edges.edges_along.Goals as goal

pub loop-link-preserved : goal.loop-link-preserved
loop-link-preserved c =
    edges_one c.args.history.now c.args.cycle.now c.loop-link.link-index c.loop-link.edges.items c.add_edge.new.edges.items
    c.loop-link.before c.in_ok-before.before _ (grind (arith, common_steps, gets, c.loop-link-test.true)) c.requires.edges c.loop-link.invariant
    c.in_ok-before.ensures

pub returns : goal.returns
returns c =
    edges_whole c.args.history.now c.args.cycle.now c.loop-link.link-index c.loop-link.edges.items c.loop-link.before c.loop-link.invariant
    c.loop-link-test.false c.requires.round.some
