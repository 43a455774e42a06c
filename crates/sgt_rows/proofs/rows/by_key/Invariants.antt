use Rattle.std.proofs.Common.{◌≡◌, map}
use Rattle.std.specs.Map.Iter.{deref_pair}
use Rattle.sgt_model.specs.Contents.{Key}
use Rattle.sgt_model.specs.Databases.{contents_of}
use Rattle.sgt_rows.proofs.Entries.{read_so_far}
use Rattle.sgt_rows.proofs.rows.by_key.Given as goal

-- the values of the entries so far
abbrev pub invariant-loop-key : goal.invariant-loop-key
invariant-loop-key l = (k : Key) → contents_of l.rows k ≡ read_so_far l.entries (map deref_pair l.yielded) k
