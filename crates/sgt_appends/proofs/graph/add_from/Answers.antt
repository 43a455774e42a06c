use Rattle.std.proofs.Common.{get_or, refl, arith}
use Rattle.sgt_appends.specs.Indexes.{position_of}
use Rattle.sgt_appends.specs.Required.{IsNextLink}
use Rattle.sgt_appends.proofs.More.{none_more, next_one}
use Rattle.sgt_appends.proofs.Spots.{has_at}
use Rattle.sgt_appends.proofs.graph.add_from.Goals as goal

pub loop-at-init : goal.loop-at-init
loop-at-init c = record {
  before_is = c.before_at-before.ensures;
  more = none_more c.args.links.now.items
      (IsNextLink (position_of c.args.appends.now) c.args.read.reader c.args.read.position c.args.read.key c.args.read.seen.now);
  linked = c.requires.linked;
}

pub position_in-next-requires : goal.position_in-next-requires
position_in-next-requires c =
    c.requires.indexed (get_or c.args.read.seen.now c.loop-at.at 0)
    (has_at c.args.read.seen.now c.loop-at.at (get_or c.args.read.seen.now c.loop-at.at 0) c.loop-at-test.true refl)

pub loop-at-preserved : goal.loop-at-preserved
loop-at-preserved c =
    next_one (position_of c.args.appends.now) c.args.links.now.items c.loop-at.links.items c.add_pair.new.links.items c.args.read.reader
    c.args.read.position c.args.read.key c.args.read.seen.now c.loop-at.at c.loop-at.before c.position_in-next.result
    c.loop-at-test.true c.loop-at.invariant c.position_in-next.ensures c.in_ok-add_pair.ensures

pub returns-clause-linked : goal.returns-clause-linked
returns-clause-linked c = λ i x y less one other.
    c.loop-at.invariant.linked i x y (omega (arith, less, c.loop-at-test.false)) one other
