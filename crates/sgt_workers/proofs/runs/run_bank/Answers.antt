use Rattle.std.proofs.Common.{ap, ◌∙◌}
use Rattle.sgt_engine.specs.EngineView.{configuration_of}
use Rattle.sgt_workers.proofs.runs.run_bank.Goals as goal

pub returns-clause-configuration : goal.returns-clause-configuration
returns-clause-configuration g c = c.in_ok-engine.ensures.configuration ∙ ap configuration_of (c.in-Ok-new.ensures.ok ∙ c.reserve.ensures ∙ c.in-Ok.ensures.made)
