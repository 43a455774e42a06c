use Rattle.std.proofs.Common.{◌≡◌, ◌≤◌, ◌↔◌, ℕ, false, length, take}
use Rattle.sgt_model.specs.Paths.{Member, Rising}
use Rattle.sgt_cascade.specs.Standing.{stands}
use Rattle.sgt_cascade.proofs.standing.fallen.Given as goal

abbrev pub invariant-loop-i : goal.invariant-loop-i
invariant-loop-i l = record {
  members : (u : ℕ) → Member u l.fell ↔ (Member u (take l.i l.others) × (stands l.standing u ≡ false));
  rising : Rising l.fell;
  few : length l.fell ≤ l.i;
}
