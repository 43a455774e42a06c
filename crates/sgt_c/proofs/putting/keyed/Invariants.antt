use Rattle.std.proofs.Common.{◌≡◌, take, length, map}
use Rattle.std.specs.Vec.{vec_len, vec_capacity}
use Rattle.sgt_c.specs.Rows.{row_of}
use Rattle.sgt_c.proofs.putting.keyed.Given as goal

abbrev pub invariant-loop-row : goal.invariant-loop-row
invariant-loop-row l = record {
  rows : l.keyed.items ≡ map row_of (take l.row-index l.rows);
  capacity : vec_capacity l.keyed ≡ length l.rows;
  count : vec_len l.keyed ≡ l.row-index;
}
