use Rattle.std.proofs.Common.{◌≡◌}
use Rattle.sgt_classes.specs.declared.first_accesses.Counted.TheVariants.{Any, Writes}
use Rattle.sgt_classes.specs.FirstAccesses.{KnowsConflicts, KnowsFirsts}
use Rattle.sgt_classes.proofs.conflicts.Conflicts.report_all.Given as goal

abbrev pub invariant-loop-place : goal.invariant-loop-place
invariant-loop-place l = record {
  conflicts : KnowsConflicts l.operations l.place l.place l.self;
  any : l.accesses.kind ≡ Any;
  accesses : KnowsFirsts l.operations l.place l.accesses;
  writing : l.writes.kind ≡ Writes;
  writes : KnowsFirsts l.operations l.place l.writes;
}
