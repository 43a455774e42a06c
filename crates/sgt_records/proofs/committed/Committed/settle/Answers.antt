use Rattle.std.proofs.Common.{◌≡◌, ◌≢◌, ap, sym, ◌∙◌}
use Rattle.std.proofs.lemmas.Bool.{eqb-true, eqb-false}
use Rattle.std.specs.Option.{unwrap_or}
use Rattle.sgt_records.specs.Settleds.{settled_in}
use Rattle.sgt_records.proofs.PendingWrites.{settle_more, settle_other}
use Rattle.sgt_records.proofs.committed.Committed.settle.Goals as goal
use Rattle.sgt_records.proofs.committed.Committed.settle.Goals.{then-eq, else-eq}

pub loop-write-preserved : goal.loop-write-preserved
loop-write-preserved c =
    let w = c.write-item.result in
    let writes = c.args.writes.now in
    let at = c.loop-write.write-index in
    let opening = settled_in c.args.self.now.records in
    elim c.if-eq.branch [
      | then-eq b ↦
          let own : w.by ≡ c.args.t = eqb-true w.by c.args.t (sym c.eq.ensures ∙ b.if-eq.true) in
          rw b.self-is record {
            settled = λ k. settle_more c.args.t writes at w c.loop-write-test.true c.write-item.is (λ j. c.requires.pending.once c.args.t j)
                own k (settled_in c.loop-write.self.records k) (settled_in b.put.new.self.records k) (opening k)
                (b.put.ensures.put k) (c.loop-write.invariant.settled k);
            kept = λ k h. b.put.ensures.kept k (c.loop-write.invariant.kept k h);
          }
      | else-eq b ↦
          let other : w.by ≢ c.args.t = eqb-false w.by c.args.t (sym c.eq.ensures ∙ b.if-eq.false) in
          rw b.self-is record {
            settled = λ k. c.loop-write.invariant.settled k ∙ ap (λ o. unwrap_or o (opening k))
                (settle_other c.args.t writes at w c.loop-write-test.true c.write-item.is other k);
            kept = c.loop-write.invariant.kept;
          }
    ]
