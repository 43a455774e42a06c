-- What a cut leaves: a past of its own, and an engine that continues from what the past committed.
use Rattle.std.specs.Prelude.{◌≡◌, List, []}
use Rattle.sgt_model.specs.declared.entry.Entry.{Entry}
use Rattle.sgt_model.specs.Fates.{live_ones}
use Rattle.sgt_model.specs.Configurations.{Configuration}
use Rattle.sgt_model.specs.Values.{settled}
use Rattle.sgt_engine.specs.EngineView.{EngineView, configuration_of}

-- no transaction is live after the history
abbrev pub NobodyLive : List Entry → Type 0
NobodyLive past = live_ones past ≡ []

-- the configuration after a cut: the initial database is what the past has committed, and the rules are the same
abbrev pub configuration_after : Configuration → List Entry → Configuration
configuration_after s past = record { opening = settled s.opening past; rules = s.rules }

-- the engine continues after a cut, with an empty history
pub record GoesOn (before after : EngineView) : Type 0 where
  pub configuration : configuration_of after ≡ configuration_after (configuration_of before) before.past
  pub procedures : after.procedures ≡ before.procedures
  pub limits : after.limits ≡ before.limits
  pub past : after.past ≡ []
