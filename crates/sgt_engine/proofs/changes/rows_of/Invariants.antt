use Rattle.std.proofs.Common.{◌≡◌, map}
use Rattle.std.specs.Map.Iter.{deref_pair}
use Rattle.sgt_model.specs.Contents.{Key}
use Rattle.sgt_model.specs.Databases.{contents_of}
use Rattle.sgt_records.proofs.RecordsRead.{read_so_far}
use Rattle.sgt_engine.proofs.changes.rows_of.Given as goal

-- the values so far
abbrev pub invariant-loop-key : goal.invariant-loop-key
invariant-loop-key l = (k : Key) → contents_of l.rows k ≡ read_so_far l.values (map deref_pair l.yielded) k
