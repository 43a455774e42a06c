use Rattle.std.proofs.Common.{◌≡◌, take, drop, length}
use Rattle.sgt_c.proofs.reply_struct.write_answers.Given as goal

abbrev pub invariant-loop-i : goal.invariant-loop-i
invariant-loop-i l = record {
  capacity : length l.to ≡ 8;
  written : take l.i l.to ≡ take l.i l.answers;
  rest : drop l.i l.to ≡ drop l.i l.initial.to;
}
