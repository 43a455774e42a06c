use Rattle.std.proofs.Common.{get_or}
use Rattle.std.specs.BTreeSet.{contains}
use Rattle.std.specs.Ordering.{nat_cmp}
use Rattle.sgt_appends.specs.Links.{has_number}
use Rattle.sgt_appends.proofs.Unknown.{noted_number, numbers_one}
use Rattle.sgt_appends.proofs.graph.set_of.Goals as goal

pub loop-value-preserved : goal.loop-value-preserved
loop-value-preserved c = λ v.
    let x = get_or c.args.values.now c.loop-value.value-index 0 in
    numbers_one (has_number c.loop-value.set v) (has_number c.insert.new.self v) v c.loop-value.value-index c.args.values.now
    c.loop-value-test.true
    (noted_number x v (contains nat_cmp c.loop-value.set v) (contains nat_cmp c.insert.new.self v) (c.in_ok-insert.ensures.updates.0 v))
    (c.loop-value.invariant v)
