use Rattle.std.proofs.Common.{◌≡◌, List, ◌+◌, ◌≤◌, length}
use Rattle.sgt_model.specs.declared.call.Call.{Call}
use Rattle.sgt_input.specs.Intake.{come, cut_left}
use Rattle.sgt_bank.specs.Jobs.{numbered}
use Rattle.sgt_bank.specs.Taking.{TakesCalls}
use Rattle.sgt_bank.proofs.jobs.read_jobs.Given as goal

abbrev pub invariant-loop-jobs : goal.invariant-loop-jobs
invariant-loop-jobs g l = record {
  requested : (cs : List Call) × (l.jobs.items ≡ numbered 0 cs) × (l.lines.number ≡ l.fn.lines.number + length cs) × (length cs ≤ 1000000)
      × TakesCalls
      (l.fn.lines.number + 1) (cut_left l.fn.lines (g.S.Source.rest l.fn.source)) cs (cut_left l.lines (g.S.Source.rest l.source));
  counted : g.S.Source.given l.source + come l.fn.lines ≤ g.S.Source.given l.fn.source + come l.lines;
  few : come l.lines ≤ 4294967297;
  reading : g.S.Source.failures l.source ≡ g.S.Source.failures l.fn.source;
}

abbrev pub decreases-loop-jobs : goal.decreases-loop-jobs
decreases-loop-jobs g l = l.lines.within
