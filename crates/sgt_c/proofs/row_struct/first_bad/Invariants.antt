use Rattle.std.proofs.Common.{take}
use Rattle.std.specs.List.{All}
use Rattle.sgt_c.specs.Rows.{IsRow}
use Rattle.sgt_c.proofs.row_struct.first_bad.Given as goal

abbrev pub invariant-loop-index : goal.invariant-loop-index
invariant-loop-index l = All IsRow (take l.index l.rows)
