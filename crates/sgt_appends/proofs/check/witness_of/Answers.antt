use Rattle.std.proofs.Common.{rules}
use Rattle.sgt_appends.specs.Reads.{HasFault}
use Rattle.sgt_appends.proofs.Passed.{fault_shown}
use Rattle.sgt_appends.proofs.Loops.{all_precede, cycle_shown}
use Rattle.sgt_appends.proofs.check.witness_of.Goals as goal

pub returns-in-Some : goal.returns-in-Some
returns-in-Some c =
    let has : HasFault c.args.history.now c.in-Some.reader c.in-Some.read c.in-Some.fault = search rules in
    (fault_shown c.args.history.now c.in-Some.reader c.in-Some.read c.in-Some.fault c.requires.once has, has)

pub returns-in-None : goal.returns-in-None
returns-in-None c = (
  cycle_shown c.args.history.now c.args.edges.items c.requires.once c.requires.cycle,
  (c.requires.cycle, all_precede c.args.history.now c.args.edges.items c.requires.cycle.shown),
)
