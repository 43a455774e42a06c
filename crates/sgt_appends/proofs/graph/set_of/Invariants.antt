use Rattle.std.proofs.Common.{◌↔◌, ℕ, take}
use Rattle.sgt_appends.specs.Lists.{Has}
use Rattle.sgt_appends.specs.Links.{has_number}
use Rattle.sgt_appends.proofs.graph.set_of.Given as goal

abbrev pub invariant-loop-value : goal.invariant-loop-value
invariant-loop-value l = (v : ℕ) → has_number l.set v ↔ Has (take l.value-index l.values) v
