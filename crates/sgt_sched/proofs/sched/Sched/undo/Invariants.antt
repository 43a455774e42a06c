use Rattle.std.proofs.Common.{take}
use Rattle.sgt_model.specs.Changes.{Drops}
use Rattle.sgt_model.specs.FallsIn.{FallsIn}
use Rattle.sgt_model.specs.ShortReplies.{full_cause}
use Rattle.sgt_sched.specs.Scheduler.{state, Keeps}
use Rattle.sgt_sched.proofs.sched.Sched.undo.Given as goal

abbrev pub invariant-loop-reader : goal.invariant-loop-reader
invariant-loop-reader g l = record {
  falls : FallsIn (state l.fn.self) l.fn.t l.reader-items;
  drops : Drops l.fn.t (full_cause l.fn.cause l.fn.cycle) (take l.reader-index l.reader-items) (state l.fn.self) (state l.self);
  kept : Keeps l.fn.self l.self;
}
