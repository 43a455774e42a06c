use Rattle.std.proofs.Common.{rules}
use Rattle.sgt_appends.specs.Indexes.{position_of, IsIndex}
use Rattle.sgt_appends.specs.Reads.{HasFault}
use Rattle.sgt_appends.proofs.Filed.{index_once}
use Rattle.sgt_levels.specs.Commits.{IsReadCommitted}
use Rattle.sgt_levels.proofs.Answered.{fault_rules_out, not_snapshot}
use Rattle.sgt_levels.proofs.levels.levels_of.Goals as goal

pub returns-in-Some-2 : goal.returns-in-Some-2
returns-in-Some-2 c =
    let index : IsIndex c.args.history.now (position_of c.in-Some.appends) = search rules in
    let has : HasFault c.args.history.now c.in-Some-2.reader c.in-Some-2.read c.in-Some-2.fault = search rules in
    let none : ¬ IsReadCommitted c.args.history.now =
    fault_rules_out c.args.history.now c.in-Some-2.reader c.in-Some-2.read c.in-Some-2.fault
    (index_once c.args.history.now (position_of c.in-Some.appends) index) has in
    record { writes = c.in_ok-search_order.ensures; committed = (has, none); snapshot = not_snapshot c.args.history.now none }

pub returns : goal.returns
returns c = record {
  writes = c.in_ok-writes.ensures;
  committed = c.in_ok-committed.ensures;
  snapshot = c.snapshot_under.ensures c.args.history.now c.in_ok-committed.ensures c.in_ok-snapshot.ensures;
}
