use Rattle.std.proofs.Common.{◌≡◌, take}
use Rattle.sgt_model.specs.Contents.{Key}
use Rattle.sgt_model.specs.Databases.{contents_of}
use Rattle.sgt_c.specs.Rows.{with_rows}
use Rattle.sgt_c.proofs.opening.with_rows.Given as goal

abbrev pub invariant-loop-row : goal.invariant-loop-row
invariant-loop-row l = (k : Key) → contents_of l.all k ≡ with_rows (contents_of l.fn.database) (take l.row-index l.rows) k
