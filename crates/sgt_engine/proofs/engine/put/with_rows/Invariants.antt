use Rattle.std.proofs.Common.{◌≡◌, take}
use Rattle.sgt_model.specs.Contents.{Key}
use Rattle.sgt_model.specs.Databases.{contents_of}
use Rattle.sgt_engine.specs.Puts.{with_rows, AreNew}
use Rattle.sgt_engine.proofs.engine.put.with_rows.Given as goal

abbrev pub invariant-loop-index : goal.invariant-loop-index
invariant-loop-index l = record {
  contents : (k : Key) → contents_of l.all k ≡ with_rows (contents_of l.fn.database) (take l.index l.rows) k;
  new : AreNew (contents_of l.fn.database) (take l.index l.rows);
}
