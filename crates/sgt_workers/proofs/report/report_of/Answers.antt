use Rattle.std.proofs.Common.{◌≡◌, ◌∙◌, List, reverse, ap, sym, subst}
use Rattle.std.proofs.lemmas.List.{reverse-reverse}
use Rattle.sgt_model.specs.declared.entry.Entry.{Entry}
use Rattle.sgt_model.specs.Aborts.{AbortsHaveCause}
use Rattle.sgt_model.specs.CommitOrder.{CommitsInOrder}
use Rattle.sgt_model.specs.Databases.{contents_of}
use Rattle.sgt_model.specs.Legality.{Legal}
use Rattle.sgt_model.specs.Pairs.{Pair}
use Rattle.sgt_model.specs.Replay.{folded, ReplayAgrees}
use Rattle.sgt_model.specs.Values.{settled}
use Rattle.sgt_model.specs.Paths.{Acyclic}
use Rattle.sgt_engine.specs.EngineView.{configuration_of}
use Rattle.sgt_audit.specs.AllOutcomes.{OutcomesStand}
use Rattle.sgt_workers.proofs.report.report_of.Goals as goal

pub audit-requires : goal.audit-requires
audit-requires g c =
    let s = configuration_of c.args.engine in
    (s, subst (λ past. Legal s past) (sym c.history.ensures.entries) c.history.ensures.guarantees.legal)

pub returns-clause-report : goal.returns-clause-report
returns-clause-report g c =
    let s = configuration_of c.args.engine in
    let past = c.into_past-opening.ensures in
    let h = c.into_past-opening.result.history.entries in
    let is = sym past.entries in
    let audited = c.history.result.now.entries in
    let same : audited ≡ h =
    sym (reverse-reverse audited) ∙ ap reverse (c.history.ensures.entries ∙ is) ∙ reverse-reverse h in
    let stand : OutcomesStand h c.args.jobs.now c.args.outcomes.items c.args.workers c.args.tries =
    subst (λ (l : List Entry). OutcomesStand l c.args.jobs.now c.args.outcomes.items c.args.workers c.args.tries) same
    (subst (λ o. OutcomesStand audited c.args.jobs.now o c.args.workers c.args.tries) c.as_slice.ensures.value
    (c.in-Ok-audit.ensures.0 c.if-not-stands.false)) in
    record {
      opening = λ k. ap (λ o. contents_of o k) past.opening;
      legal = subst (λ l. Legal s l) is past.guarantees.legal;
      outcomes = stand;
      all_ended = stand.all_ended;
      values = λ k. subst (λ l. contents_of c.in-Ok.database k ≡ settled s.opening l k) is (c.in-Ok.ensures.values k);
      replayed = λ k. subst (λ l. contents_of c.in-Ok.database k ≡ (folded s l).last k) is (c.in-Ok.ensures.replayed k);
      by_key = c.in-Ok.ensures.by_key;
      replay = subst (λ l. ReplayAgrees s l) is past.guarantees.headline.replay;
      no_cycle = subst (λ l. Acyclic (Pair l)) is past.guarantees.headline.no_cycle;
      causes = subst (λ l. AbortsHaveCause s l) is past.guarantees.headline.causes;
      order = subst (λ l. CommitsInOrder l) is past.guarantees.headline.order;
    }
