-- What a pool of workers leaves when it ends.
use Rattle.std.specs.Prelude.{◌≡◌}
use Rattle.sgt_dispatch.specs.Ends.{ProducerState}
use Rattle.sgt_workers.specs.declared.errors.PoolError.{PoolError}
use Rattle.sgt_workers.specs.declared.errors.PoolError.TheVariants as error

-- an error of the run itself, not of its input
abbrev pub IsRunError : PoolError → Type 0
IsRunError error.BadWorkers = ⊥
IsRunError error.BadTries = ⊥
IsRunError error.BadLimits = ⊥
IsRunError error.BadJobs = ⊥
IsRunError error.NoMemory = Unit {0}
IsRunError error.Spawn = Unit {0}
IsRunError error.Mismatch = Unit {0}

-- the same feed, with the same takers joined and not joined
abbrev pub KeepsConsumers : ProducerState → ProducerState → Type 0
KeepsConsumers old new = (new.queue ≡ old.queue) × (new.joined ≡ old.joined) × (new.unjoined ≡ old.unjoined)
