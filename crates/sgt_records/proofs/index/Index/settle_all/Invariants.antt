use Rattle.std.proofs.Common.{◌≡◌, ◌≢◌, ◌≤◌, ◌-◌, ℕ, true, false, cond, nat_eq, length}
use Rattle.std.specs.List.{AllWithin}
use Rattle.std.specs.Option.{unwrap_or}
use Rattle.sgt_model.specs.Contents.{Key}
use Rattle.sgt_model.specs.Chains.{chain_without, value_in}
use Rattle.sgt_records.specs.declared.live_write.LiveWrite.{LiveWrite}
use Rattle.sgt_records.specs.LiveWrites.{is_live, IndicesAgree}
use Rattle.sgt_records.specs.Slots.{key_chain, committed_of}
use Rattle.sgt_records.specs.Tables.{record_in, index_in}
use Rattle.sgt_records.proofs.index.Index.settle_all.Given as goal

-- the last one before the index is t's, and none from the index on; and to commit what is left of t's gives what to commit all gives
abbrev pub invariant-loop-at : goal.invariant-loop-at
invariant-loop-at l = record {
  within : l.at ≤ length l.live.items;
  own : AllWithin (λ (w : LiveWrite). nat_eq w.by l.t ≡ true) l.live.items (l.at - 1) l.at;
  none : AllWithin (λ (w : LiveWrite). nat_eq w.by l.t ≡ false) l.live.items l.at (length l.live.items);
  others : (u : ℕ) (k : Key) → u ≢ l.t → is_live u k l.live.items ≡ is_live u k l.fn.live.items;
  chain : (k : Key) → cond (is_live l.t k l.live.items) (chain_without l.t (key_chain (record_in l.self.table) l.self.chains k))
      (key_chain (record_in l.self.table) l.self.chains k)
      ≡ cond (is_live l.t k l.fn.live.items) (chain_without l.t (key_chain (record_in l.fn.self.table) l.fn.self.chains k))
      (key_chain (record_in l.fn.self.table) l.fn.self.chains k);
  settled : (k : Key) → cond (is_live l.t k l.live.items)
      (unwrap_or (value_in l.t (key_chain (record_in l.self.table) l.self.chains k)) (committed_of (record_in l.self.table) k))
      (committed_of (record_in l.self.table) k)
      ≡ cond (is_live l.t k l.fn.live.items)
      (unwrap_or (value_in l.t (key_chain (record_in l.fn.self.table) l.fn.self.chains k)) (committed_of (record_in l.fn.self.table) k))
      (committed_of (record_in l.fn.self.table) k);
  indices : l.self.table.indices ≡ l.fn.self.table.indices;
  returned : IndicesAgree (index_in l.fn.self.table) l.live.items;
}

abbrev pub decreases-loop-at : goal.decreases-loop-at
decreases-loop-at l = l.at
