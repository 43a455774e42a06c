use Rattle.std.proofs.Common.{◌≡◌, true, take}
use Rattle.sgt_format.proofs.plain_line.following.Given as goal

abbrev pub invariant-loop-at : goal.invariant-loop-at
invariant-loop-at l = l.same ≡ true → take l.at l.text ≡ take l.at l.words
