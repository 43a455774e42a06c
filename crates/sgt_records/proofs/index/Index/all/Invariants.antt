use Rattle.std.proofs.Common.{◌≡◌, ℕ, map, slice_get}
use Rattle.std.specs.Option.{option_and_then}
use Rattle.std.specs.Map.Iter.{deref_pair}
use Rattle.sgt_model.specs.Contents.{Key}
use Rattle.sgt_model.specs.Databases.{contents_of, IsByKey}
use Rattle.sgt_records.specs.declared.record.Record.{Record}
use Rattle.sgt_records.proofs.EntriesRead.{given_so_far}
use Rattle.sgt_records.proofs.index.Index.all.Given as goal

-- the values of the records so far, by key
abbrev pub invariant-loop-key : goal.invariant-loop-key
invariant-loop-key l = record {
  values : (k : Key) → contents_of l.values k
      ≡ given_so_far (λ (p : ℕ). option_and_then (λ (r : Record). r.committed) (slice_get l.self.table.records.items p))
      l.self.table.indices (map deref_pair l.yielded) k;
  by_key : IsByKey l.values;
}
