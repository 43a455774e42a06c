use Rattle.std.proofs.Common.{rules, ◌≡◌, None}
use Rattle.std.specs.BTreeMap.{get}
use Rattle.sgt_model.specs.Databases.{key_cmp}
use Rattle.sgt_records.proofs.SettledValues.{value_same, values_same, records_kept}
use Rattle.sgt_records.proofs.committed.Committed.reserve.Goals as goal

pub invariant_of-self : goal.invariant_of-self
invariant_of-self c =
    let absent : get key_cmp c.args.self.now.records c.args.key ≡ None = search rules in
    record {
      in_range = values_same c.args.self.now.records c.insert.new.self c.args.key c.insert.result absent c.insert.ensures.updates
          c.insert.ensures.err c.args.self.now.in_range;
    }

pub returns-in_ok-insert-clause-same : goal.returns-in_ok-insert-clause-same
returns-in_ok-insert-clause-same c =
    let absent : get key_cmp c.args.self.now.records c.args.key ≡ None = search rules in
    value_same c.args.self.now.records c.insert.new.self c.args.key absent c.in_ok-insert.ensures.updates

pub returns-in_ok-insert-clause-kept : goal.returns-in_ok-insert-clause-kept
returns-in_ok-insert-clause-kept c = records_kept c.args.self.now.records c.insert.new.self c.args.key None c.in_ok-insert.ensures.updates
