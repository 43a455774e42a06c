use Rattle.std.proofs.Common.{◌≡◌, ◌<◌, length, take, true, false, slice_index_or, sym, arith}
use Rattle.std.proofs.lemmas.List.{take_all}
use Rattle.sgt_cascade.specs.Standing.{stands}
use Rattle.sgt_cascade.proofs.RisingLists.{adds, skips, with_few, with_rising}
use Rattle.sgt_cascade.proofs.standing.fallen.Goals as goal
use Rattle.sgt_cascade.proofs.standing.fallen.Goals.{then-not-contains, else-not-contains}

pub loop-i-preserved : goal.loop-i-preserved
loop-i-preserved c =
    let x = c.index-as_slice-i.result in
    let below : c.loop-i.i < length c.args.others.now = omega (arith, c.loop-i-test.true, c.len-i-end.ensures.count) in
    let is : x ≡ slice_index_or c.args.others.now c.loop-i.i x = rw c.as_slice.ensures at c.index-as_slice-i.is in
    elim c.if-not-contains.branch [
      | then-not-contains w ↦
          let out : stands c.args.standing.now x ≡ false = sym w.if-not-contains.ensures.value in
          rw (w.fell-is, w.add.ensures) record {
            members = adds c.args.standing.now c.args.others.now c.loop-i.fell c.loop-i.i x below is c.loop-i.invariant.members out;
            rising = with_rising x c.loop-i.fell c.loop-i.invariant.rising;
            few = omega (arith, with_few x c.loop-i.fell, c.loop-i.invariant.few);
          }
      | else-not-contains w ↦
          let there : stands c.args.standing.now x ≡ true = sym w.if-not-contains.ensures.value in
          rw w.fell-is record {
            members = skips c.args.standing.now c.args.others.now c.loop-i.fell c.loop-i.i x below is c.loop-i.invariant.members there;
            rising = c.loop-i.invariant.rising;
            few = omega (arith, c.loop-i.invariant.few);
          }
    ]

pub returns-clause-members : goal.returns-clause-members
returns-clause-members c =
    let whole : take c.loop-i.i c.args.others.now ≡ c.args.others.now =
    take_all c.loop-i.i c.args.others.now (omega (arith, c.loop-i-test.false, c.len-i-end.ensures.count)) in
    rw whole at c.loop-i.invariant.members
