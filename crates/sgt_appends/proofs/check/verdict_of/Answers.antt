use Rattle.std.proofs.Common.{rules}
use Rattle.sgt_appends.specs.Indexes.{position_of, IsIndex}
use Rattle.sgt_appends.specs.Reads.{HasFault}
use Rattle.sgt_appends.proofs.Filed.{index_once}
use Rattle.sgt_appends.proofs.Passed.{fault_shown}
use Rattle.sgt_appends.proofs.check.verdict_of.Goals as goal

pub returns-in-Some-2 : goal.returns-in-Some-2
returns-in-Some-2 c =
    let index : IsIndex c.args.history.now (position_of c.in-Some.appends) = search rules in
    let has : HasFault c.args.history.now c.in-Some-2.reader c.in-Some-2.read c.in-Some-2.fault = search rules in (
      fault_shown c.args.history.now c.in-Some-2.reader c.in-Some-2.read c.in-Some-2.fault
          (index_once c.args.history.now (position_of c.in-Some.appends) index) has,
      has,
    )

pub solve-requires-clause-clean : goal.solve-requires-clause-clean
solve-requires-clause-clean c = c.in_ok-reader.ensures.clean (search rules)
