use Rattle.std.proofs.Common.{◌≡◌, sym, subst}
use Rattle.std.specs.BTreeMap.{get}
use Rattle.sgt_model.specs.Contents.{Key}
use Rattle.sgt_model.specs.Chains.{chain_without}
use Rattle.sgt_model.specs.Databases.{key_cmp}
use Rattle.sgt_records.specs.LiveWrites.{is_live, IndicesAgree}
use Rattle.sgt_records.specs.Slots.{key_chain, committed_of}
use Rattle.sgt_records.specs.Tables.{record_in}
use Rattle.sgt_records.proofs.LiveWritesLeft.{undone, settled_once}
use Rattle.sgt_records.proofs.LiveWritesTaken.{live_gone}
use Rattle.sgt_records.proofs.slab_records.SlabRecordsRecords.settle.Goals as goal

pub invariant_of-self : goal.invariant_of-self
invariant_of-self c =
    let live = c.args.self.now.live.items in
    let old = c.args.self.now.index in
    let new = c.settle_all.new.self in
    let out : (k : Key) → key_chain (record_in new.table) new.chains k
    ≡ chain_without c.args.t (key_chain (record_in old.table) old.chains k) =
    λ k. undone c.args.t (is_live c.args.t k live) (key_chain (record_in old.table) old.chains k) _
    (c.args.self.now.are_live c.args.t k) (c.settle_all.ensures.chain k) in
    record {
      are_live = λ u k. live_gone c.args.t u k live _ _ _ (c.args.self.now.are_live u k) (c.settle_all.ensures.left u k) (out k);
      indices_agree = subst (λ m. IndicesAgree (get key_cmp m) c.settle_all.new.live.items) (sym c.settle_all.ensures.indices)
          c.settle_all.ensures.returned;
    }

pub returns-clause-chain : goal.returns-clause-chain
returns-clause-chain c k =
    let old = c.args.self.now.index in
    undone c.args.t (is_live c.args.t k c.args.self.now.live.items) (key_chain (record_in old.table) old.chains k) _
    (c.args.self.now.are_live c.args.t k) (c.settle_all.ensures.chain k)

pub returns-clause-settled : goal.returns-clause-settled
returns-clause-settled c k =
    let old = c.args.self.now.index in
    settled_once c.args.t (is_live c.args.t k c.args.self.now.live.items) (key_chain (record_in old.table) old.chains k)
    (committed_of (record_in old.table) k) _ (c.args.self.now.are_live c.args.t k) (c.settle_all.ensures.settled k)
