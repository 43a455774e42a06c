use Rattle.std.proofs.Common.{◌≡◌, take}
use Rattle.sgt_log.proofs.entry_ref.are_same_values.Given as goal

abbrev pub invariant-loop-i : goal.invariant-loop-i
invariant-loop-i l = take l.i l.values ≡ take l.i l.others
