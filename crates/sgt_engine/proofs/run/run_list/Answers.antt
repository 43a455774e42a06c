use Rattle.std.proofs.Common.{rules, arith, Some, refl, sym, ap, subst, ◌∙◌, ◌+◌}
use Rattle.std.proofs.lemmas.Option.{slice_get_read}
use Rattle.std.specs.Prelude.{slice_get}
use Rattle.std.specs.Result.{is_ok}
use Rattle.sgt_engine.specs.EngineView.{EngineView, configuration_of}
use Rattle.sgt_model.specs.Histories.{events_of}
use Rattle.sgt_model.specs.Legality.{Legal}
use Rattle.sgt_engine.proofs.Entries.{legal_new, events_taken}
use Rattle.sgt_engine.proofs.Guaranteed.{guaranteed}
use Rattle.sgt_engine.proofs.Stops.{stops_at_end, stops_refused}
use Rattle.sgt_engine.proofs.run.run_list.Goals.{else-loop-event-test, then-loop-event-test+in-Err}
use Rattle.sgt_engine.proofs.run.run_list.Goals as goal

pub loop-event-init : goal.loop-event-init
loop-event-init g c =
    record {
      done = refl;
      configuration = search rules;
      events = search rules;
      legal = legal_new _ _ _ _ c.in_ok-engine.ensures.made;
    }

pub loop-event-preserved : goal.loop-event-preserved
loop-event-preserved g c = record {
  done = ap (λ n. n + 1) c.loop-event.invariant.done;
  configuration = ap configuration_of c.in-Ok.ensures.adds ∙ c.loop-event.invariant.configuration;
  events = ap (λ (e : EngineView). events_of e.past) c.in-Ok.ensures.adds
      ∙ events_taken _ c.loop-event.engine.past c.args.events.now c.loop-event.done c.loop-event.event-index c.event-item.result
      c.loop-event.invariant.done (search rules) c.loop-event.invariant.events c.event-item.is c.copied.ensures;
  legal = c.in-Ok.ensures.guarantees.legal;
}

pub returns-clause-stops : goal.returns-clause-stops
returns-clause-stops g c =
    elim c.loop-event-test.branch [
      | else-loop-event-test w ↦ stops_at_end c.loop-event-test.engine c.loop-event.done c.args.events.now
          (omega (arith, w.loop-event-test.false, c.loop-event.invariant.done))
      | then-loop-event-test+in-Err w
          ↦ (let here = slice_get_read c.args.events.now _ c.loop-event.event-index w.event-item.result refl w.loop-event-test.true
          w.event-item.is in stops_refused c.loop-event.engine c.loop-event-test.engine c.loop-event.done c.args.events.now
          w.copied.result w.apply.result (w.engine-is ∙ w.in-Err.ensures.unchanged)
          (ap (λ n. slice_get c.args.events.now n) c.loop-event.invariant.done ∙ here ∙ ap Some (sym w.copied.ensures))
          (ap is_ok w.in-Err.is) w.apply.ensures.no_memory)
    ]

pub returns-clause-guarantees : goal.returns-clause-guarantees
returns-clause-guarantees g c =
    let legal_at : EngineView → Type 0 = λ e. Legal (configuration_of e) e.past in
    guaranteed c.headline_holds.ensures _ (elim c.loop-event-test.branch [
      | else-loop-event-test w ↦ subst legal_at (sym w.engine-is) c.loop-event.invariant.legal
      | then-loop-event-test+in-Err w
          ↦ subst legal_at (sym (w.engine-is ∙ w.in-Err.ensures.unchanged)) c.loop-event.invariant.legal
    ])
