use Rattle.std.proofs.Common.{ℕ, take}
use Rattle.sgt_appends.specs.Lists.{Has}
use Rattle.sgt_appends.specs.Indexes.{position_of}
use Rattle.sgt_appends.specs.Links.{IsKnownBy}
use Rattle.sgt_appends.proofs.graph.first_in_set.Given as goal

abbrev pub invariant-loop-value : goal.invariant-loop-value
invariant-loop-value l = (v : ℕ) → Has (take l.value-index l.line) v
    → IsKnownBy (position_of l.appends) l.read.reader l.read.key l.read.seen.now v
