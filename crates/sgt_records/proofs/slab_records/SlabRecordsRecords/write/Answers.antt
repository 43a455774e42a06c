use Rattle.std.proofs.Common.{rules, ◌≡◌, true, sym, subst}
use Rattle.std.specs.BTreeMap.{get}
use Rattle.sgt_model.specs.Chains.{writes_in}
use Rattle.sgt_model.specs.Databases.{key_cmp}
use Rattle.sgt_records.specs.LiveWrites.{IndicesAgree}
use Rattle.sgt_records.specs.Slots.{key_chain}
use Rattle.sgt_records.specs.Tables.{index_in, record_in}
use Rattle.sgt_records.proofs.LiveWritesLeft.{live_added, live_again, agree_more}
use Rattle.sgt_records.proofs.slab_records.SlabRecordsRecords.write.Goals as goal

pub invariant_of-self : goal.invariant_of-self
invariant_of-self c =
    let old = c.args.self.now.index in
    record {
      are_live = λ u k. live_added c.args.t u c.args.key k _ _ c.args.self.now.live.items _ (key_chain (record_in old.table) old.chains k) _
          (c.args.self.now.are_live u k) c.push_reserved.ensures.items (c.write-again.ensures.chain k);
      indices_agree = subst (λ m. IndicesAgree (get key_cmp m) c.push_reserved.new.self.items) (sym c.write-again.ensures.indices)
          (agree_more (index_in old.table) c.args.self.now.live.items _ _ c.push_reserved.ensures.items c.requires.ready.0
          c.args.self.now.indices_agree);
    }

pub invariant_of-self-else-not-again : goal.invariant_of-self-else-not-again
invariant_of-self-else-not-again c =
    let old = c.args.self.now.index in
    let again : writes_in c.args.t (key_chain (record_in old.table) old.chains c.args.key) ≡ true = search rules in
    record {
      are_live = λ u k. live_again c.args.t u c.args.key k _ c.args.self.now.live.items
          (λ j. key_chain (record_in old.table) old.chains j) _ again (c.args.self.now.are_live u k) (c.write-again.ensures.chain k);
      indices_agree = subst (λ m. IndicesAgree (get key_cmp m) c.args.self.now.live.items) (sym c.write-again.ensures.indices)
          c.args.self.now.indices_agree;
    }
