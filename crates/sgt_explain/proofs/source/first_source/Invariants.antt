use Rattle.sgt_explain.specs.Firsts.{NoneBelow}
use Rattle.sgt_explain.specs.Sources.{ReadsUndoneAt}
use Rattle.sgt_explain.proofs.source.first_source.Given as goal

abbrev pub invariant-loop-place : goal.invariant-loop-place
invariant-loop-place l = NoneBelow (ReadsUndoneAt l.history l.end l.reader) l.place
