-- A configuration for callers who pick their own.
use Rattle.std.specs.Prelude.{[], None}
use Rattle.sgt_model.specs.declared.limits.Asks.TheVariants.{AtStep}
use Rattle.sgt_model.specs.Configurations.{Configuration, configuration}

-- nothing at all
abbrev pub none : Configuration
none = configuration (λ k. None) [] (record { live = 0; begins = 0; asks = AtStep })
