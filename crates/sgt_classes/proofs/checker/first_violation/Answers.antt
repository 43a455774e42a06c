use Rattle.std.proofs.Common.{rules, arith}
use Rattle.sgt_classes.proofs.Places.{none_next}
use Rattle.sgt_classes.proofs.checker.first_violation.Goals as goal

pub loop-place-init : goal.loop-place-init
loop-place-init g c = record {
  state = c.requires.state;
  before = λ i j less broken. omega (arith, less);
}

pub loop-place-preserved : goal.loop-place-preserved
loop-place-preserved g c = record {
  state = c.in_ok-record.ensures;
  before = none_next _ _ c.loop-place.invariant.before (c.in_ok-earlier.ensures.none (search rules));
}

pub returns : goal.returns
returns g c = λ i j broken.
    c.loop-place.invariant.before i j (omega (arith, c.loop-place-test.false, c.requires.within i j broken)) broken
