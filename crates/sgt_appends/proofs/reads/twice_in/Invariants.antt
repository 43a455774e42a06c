use Rattle.std.proofs.Common.{◌↔◌, ℕ, take}
use Rattle.sgt_appends.specs.Lists.{Has, IsOnce}
use Rattle.sgt_appends.specs.Links.{has_number}
use Rattle.sgt_appends.proofs.reads.twice_in.Given as goal

abbrev pub invariant-loop-value : goal.invariant-loop-value
invariant-loop-value l = record {
  met : (v : ℕ) → has_number l.met v ↔ Has (take l.value-index l.seen) v;
  once : IsOnce (take l.value-index l.seen);
}
