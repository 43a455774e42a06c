use Rattle.std.proofs.Common.{◌<◌, ◌≤◌, ℕ, take}
use Rattle.sgt_model.specs.Paths.{Member}
use Rattle.sgt_explain.specs.Indexes.{IsUntouched}
use Rattle.sgt_explain.proofs.source.first_of_all.Given as goal

abbrev pub invariant-loop-i : goal.invariant-loop-i
invariant-loop-i l = record {
  within : l.first ≤ l.most;
  none : (v n : ℕ) → Member v (take l.i l.tids) → n < l.first → IsUntouched l.history v n;
}
