use Rattle.sgt_classes.specs.Seen.{KnowsSources}
use Rattle.sgt_classes.proofs.avoiding.Sources.note_until.Given as goal

abbrev pub invariant-loop-earlier : goal.invariant-loop-earlier
invariant-loop-earlier l = KnowsSources l.history l.earlier l.self
