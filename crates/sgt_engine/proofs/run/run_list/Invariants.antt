use Rattle.std.proofs.Common.{◌≡◌, take}
use Rattle.sgt_model.specs.Databases.{contents_of}
use Rattle.sgt_model.specs.Legality.{Legal}
use Rattle.sgt_model.specs.Configurations.{configuration}
use Rattle.sgt_engine.specs.EngineView.{configuration_of}
use Rattle.sgt_model.specs.Histories.{events_of}
use Rattle.sgt_engine.proofs.run.run_list.Given as goal

abbrev pub invariant-loop-event : goal.invariant-loop-event
invariant-loop-event g l = record {
  done : l.done ≡ l.event-index;
  configuration : configuration_of l.engine ≡ configuration (contents_of l.fn.opening) l.fn.procedures.items l.fn.limits;
  events : events_of l.engine.past ≡ take l.done l.events;
  legal : Legal (configuration_of l.engine) l.engine.past;
}
