use Rattle.sgt_appends.specs.declared.sorting.Link.{Link}
use Rattle.sgt_appends.specs.declared.witness.Reason.TheVariants.{Seen}
use Rattle.sgt_appends.proofs.Nodes.{within_one, within_all}
use Rattle.sgt_appends.proofs.sorting.are_within.Goals as goal

pub loop-link-preserved : goal.loop-link-preserved
loop-link-preserved c =
    let d : Link = record { from = 0; to = 0; reason = Seen 0 0 } in
    within_one c.args.links.now c.loop-link.link-index d c.args.nodes c.loop-link-test.true c.if-link-nodes.false c.if-link-nodes-2.false
    c.loop-link.invariant

pub returns : goal.returns
returns c = λ yes. within_all c.args.links.now c.loop-link.link-index c.args.nodes c.loop-link-test.false c.loop-link.invariant
