use Rattle.std.proofs.Common.{drop}
use Rattle.sgt_appends.specs.Lists.{Has}
use Rattle.sgt_appends.proofs.witness.has.Given as goal

-- it is in the list only if it is in the rest
abbrev pub invariant-loop-x : goal.invariant-loop-x
invariant-loop-x l = Has l.values l.value → Has (drop l.x-index l.values) l.value
