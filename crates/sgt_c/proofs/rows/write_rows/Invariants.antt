use Rattle.std.proofs.Common.{◌≡◌, take, drop, length, map}
use Rattle.sgt_c.specs.Rows.{row_of}
use Rattle.sgt_c.proofs.rows.write_rows.Given as goal

abbrev pub invariant-loop-i : goal.invariant-loop-i
invariant-loop-i l = record {
  capacity : length l.to ≡ length l.initial.to;
  written : take l.i (map row_of l.to) ≡ take l.i l.rows;
  rest : drop l.i l.to ≡ drop l.i l.initial.to;
}
