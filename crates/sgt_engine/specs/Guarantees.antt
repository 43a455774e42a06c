-- What holds of the history of every engine.
use Rattle.sgt_model.specs.Headline.{Headline}
use Rattle.sgt_model.specs.Legality.{Legal}
use Rattle.sgt_progress.specs.Progress.{MakesProgress}
use Rattle.sgt_progress.specs.RealTime.{KeepsRealTime}
use Rattle.sgt_engine.specs.EngineView.{EngineView, configuration_of}

-- its history is legal, and the headline holds of it; its commit order keeps real time, and it makes progress
pub record Guarantees (e : EngineView) : Type 0 where
  pub legal : Legal (configuration_of e) e.past
  pub headline : Headline (configuration_of e) e.past
  pub real_time : KeepsRealTime (configuration_of e) e.past
  pub progress : MakesProgress (configuration_of e) e.past
