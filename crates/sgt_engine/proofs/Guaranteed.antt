-- Each legal history has the guarantees.
use Rattle.sgt_model.specs.Laws.{HeadlineHolds}
use Rattle.sgt_model.specs.Legality.{Legal}
use Rattle.sgt_progress.proofs.Progress.{histories_make_progress}
use Rattle.sgt_progress.proofs.RealTime.{replay_keeps_real_time}
use Rattle.sgt_engine.specs.EngineView.{EngineView, configuration_of}
use Rattle.sgt_engine.specs.Guarantees.{Guarantees}

pub guaranteed : HeadlineHolds → (e : EngineView) → Legal (configuration_of e) e.past → Guarantees e
guaranteed holds e legal = record {
  legal = legal;
  headline = holds _ _ legal;
  real_time = replay_keeps_real_time _ _ legal;
  progress = histories_make_progress _ _ legal;
}
