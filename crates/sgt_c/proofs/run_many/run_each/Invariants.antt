use Rattle.std.proofs.Common.{◌≡◌, length, take, drop}
use Rattle.sgt_c.specs.KeptFields.{KeepOtherFields}
use Rattle.sgt_c.specs.ManyRuns.{RanAll}
use Rattle.sgt_c.proofs.run_many.run_each.Given as goal

abbrev pub invariant-loop-index : goal.invariant-loop-index
invariant-loop-index l = record {
  ran : RanAll (take l.index l.calls) l.outcomes l.initial.engine l.engine;
  capacity : length l.outcomes ≡ length l.initial.outcomes;
  rest : drop l.index l.outcomes ≡ drop l.index l.initial.outcomes;
  kept : KeepOtherFields l.initial.outcomes l.outcomes;
}
