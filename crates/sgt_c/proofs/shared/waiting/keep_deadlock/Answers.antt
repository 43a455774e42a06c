use Rattle.std.proofs.Common.{◌∙◌}
use Rattle.std.proofs.Math.ListN.{length-set}
use Rattle.std.proofs.Common.{false}
use Rattle.sgt_c.proofs.SelfWaits.{fewer, still_within}
use Rattle.sgt_c.proofs.shared.waiting.keep_deadlock.Goals as goal

pub loop-i-preserved : goal.loop-i-preserved
loop-i-preserved c = record {
  long = length-set c.loop-i.set c.in-Some.i false ∙ c.loop-i.invariant.long;
  largest = λ d size dead. still_within c.args.notes.now c.args.cuts c.loop-i.set c.in-Some.i c.loop-i.invariant.long c.in-Some.ensures.some
      d size dead (c.loop-i.invariant.largest d size dead);
}

pub loop-i-smaller : goal.loop-i-smaller
loop-i-smaller c = fewer c.loop-i.set c.in-Some.i c.in-Some.ensures.some.2
