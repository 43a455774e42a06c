use Rattle.std.proofs.Common.{take}
use Rattle.sgt_appends.specs.Indexes.{position_of}
use Rattle.sgt_appends.specs.Reads.{last_in, IsPassed}
use Rattle.sgt_appends.proofs.reads.fault_of.Given as goal

abbrev pub invariant-loop-value : goal.invariant-loop-value
invariant-loop-value l =
    IsPassed l.history (position_of l.appends) l.read.reader l.read.position l.read.key (take l.value-index l.read.seen.now) (last_in l.last)
