use Rattle.std.proofs.Common.{ℕ, take}
use Rattle.sgt_appends.specs.Lists.{Has}
use Rattle.sgt_appends.specs.Indexes.{position_of}
use Rattle.sgt_appends.specs.Links.{IsKnownBy}
use Rattle.sgt_appends.proofs.graph.first_beyond.Given as goal

abbrev pub invariant-loop-at : goal.invariant-loop-at
invariant-loop-at l = (v : ℕ) → Has (take l.at l.line) v
    → IsKnownBy (position_of l.appends) l.read.reader l.read.key l.read.seen.now v
