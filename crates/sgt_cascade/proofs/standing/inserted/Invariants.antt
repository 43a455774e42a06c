use Rattle.std.proofs.Common.{◌≡◌, ◌+◌, ◌++◌, ◌∷◌, length, take, drop}
use Rattle.sgt_cascade.proofs.standing.inserted.Given as goal

abbrev pub invariant-loop-i : goal.invariant-loop-i
invariant-loop-i l = record {
  whole : l.more ++ drop l.i l.list ≡ take l.at l.list ++ l.fn.t ∷ drop l.at l.list;
  few : length l.more ≡ l.i + 1;
}
