use Rattle.std.proofs.Common.{◌≡◌, ◌≢◌, cond, ap, sym, ◌∙◌}
use Rattle.std.proofs.lemmas.Bool.{eqb-true, eqb-false}
use Rattle.sgt_model.specs.Chains.{chain_without}
use Rattle.sgt_records.specs.Slots.{key_chain}
use Rattle.sgt_records.proofs.LiveWritesLeft.{undo_more, live_other, agree_at}
use Rattle.std.specs.BTreeMap.{get}
use Rattle.sgt_model.specs.Databases.{key_cmp}
use Rattle.sgt_records.specs.Tables.{record_in, index_in}
use Rattle.sgt_records.proofs.index.Index.undo_all.Goals as goal
use Rattle.sgt_records.proofs.index.Index.undo_all.Goals.{then-eq, else-eq}

pub undo-requires : goal.undo-requires
undo-requires c = record {
  index = ap (λ m. get key_cmp m c.write-item.result.key) c.loop-write.invariant.indices
      ∙ agree_at (index_in c.args.self.now.table) c.args.writes.now c.loop-write.write-index c.write-item.result c.loop-write-test.true
      c.write-item.is c.requires.indices;
}

pub loop-write-preserved : goal.loop-write-preserved
loop-write-preserved c =
    let w = c.write-item.result in
    let writes = c.args.writes.now in
    let at = c.loop-write.write-index in
    elim c.if-eq.branch [
      | then-eq b ↦
          let own : w.by ≡ c.args.t = eqb-true w.by c.args.t (sym c.eq.ensures ∙ b.if-eq.true) in
          rw b.self-is record {
            chain = λ k. undo_more c.args.t writes at w c.loop-write-test.true c.write-item.is own k
                (key_chain (record_in c.args.self.now.table) c.args.self.now.chains k) _ _ (b.undo.ensures.chain k)
                (c.loop-write.invariant.chain k);
            settled = λ k. b.undo.ensures.settled k ∙ c.loop-write.invariant.settled k;
            indices = b.undo.ensures.indices ∙ c.loop-write.invariant.indices;
          }
      | else-eq b ↦
          let other : w.by ≢ c.args.t = eqb-false w.by c.args.t (sym c.eq.ensures ∙ b.if-eq.false) in
          rw b.self-is record {
            chain =
                λ k. c.loop-write.invariant.chain k ∙ ap (λ d. cond d
                (chain_without c.args.t (key_chain (record_in c.args.self.now.table) c.args.self.now.chains k))
                (key_chain (record_in c.args.self.now.table) c.args.self.now.chains k))
                (sym (live_other c.args.t writes at w c.loop-write-test.true c.write-item.is other k));
            settled = c.loop-write.invariant.settled;
            indices = c.loop-write.invariant.indices;
          }
    ]
