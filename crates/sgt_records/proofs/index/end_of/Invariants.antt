use Rattle.std.proofs.Common.{◌≡◌, ◌≤◌, false, nat_eq}
use Rattle.std.specs.List.{AllWithin}
use Rattle.sgt_records.specs.declared.live_write.LiveWrite.{LiveWrite}
use Rattle.sgt_records.proofs.index.end_of.Given as goal

-- from the index on, none is t's
abbrev pub invariant-loop-at : goal.invariant-loop-at
invariant-loop-at l = record {
  within : l.at ≤ l.count;
  others : AllWithin (λ (w : LiveWrite). nat_eq w.by l.t ≡ false) l.writes l.at l.count;
}

abbrev pub decreases-loop-at : goal.decreases-loop-at
decreases-loop-at l = l.at
