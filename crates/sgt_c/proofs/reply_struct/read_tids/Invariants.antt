use Rattle.std.proofs.Common.{◌≡◌, take}
use Rattle.sgt_c.proofs.reply_struct.read_tids.Given as goal

abbrev pub invariant-loop-i : goal.invariant-loop-i
invariant-loop-i l = l.tids ≡ take l.i l.from
