use Rattle.std.proofs.Common.{get_or}
use Rattle.std.specs.BTreeSet.{contains}
use Rattle.sgt_appends.specs.Indexes.{pair_cmp}
use Rattle.sgt_appends.specs.Lines.{has_pair}
use Rattle.sgt_appends.proofs.Noted.{noted_one, noted_pair}
use Rattle.sgt_appends.proofs.lines.note_values.Goals as goal

pub loop-value-preserved : goal.loop-value-preserved
loop-value-preserved c = λ k v.
    let x = get_or c.args.values.now c.loop-value.value-index 0 in
    noted_one (has_pair c.loop-value.set k v) (has_pair c.args.set.now k v) (has_pair c.insert.new.self k v) c.args.key k v
    c.loop-value.value-index c.args.values.now c.loop-value-test.true
    (noted_pair c.args.key x k v (contains pair_cmp c.loop-value.set (k, v)) (contains pair_cmp c.insert.new.self (k, v))
    (c.in_ok-insert.ensures.updates.0 (k, v)))
    (c.loop-value.invariant k v)
