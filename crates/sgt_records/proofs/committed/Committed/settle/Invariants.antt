use Rattle.std.proofs.Common.{◌≡◌, true, take}
use Rattle.sgt_model.specs.Contents.{Key}
use Rattle.sgt_records.specs.Settleds.{settled_in, has_record}
use Rattle.sgt_records.specs.Pendings.{settled_with}
use Rattle.sgt_records.proofs.committed.Committed.settle.Given as goal

-- t's writes so far are committed
abbrev pub invariant-loop-write : goal.invariant-loop-write
invariant-loop-write l = record {
  settled : (k : Key) → settled_in l.self.records k ≡ settled_with l.t (take l.write-index l.writes) (settled_in l.fn.self.records) k;
  kept : (k : Key) → has_record l.fn.self.records k ≡ true → has_record l.self.records k ≡ true;
}
