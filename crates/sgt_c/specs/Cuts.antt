-- What a cut of the history leaves in a handle.
use Rattle.std.specs.Prelude.{◌≡◌, ℕ, ◌+◌, ◌^◌, length, Option, Some, None}
use Rattle.sgt_model.specs.Contents.{Key}
use Rattle.sgt_model.specs.Databases.{contents_of, IsByKey}
use Rattle.sgt_model.specs.Fates.{live_ones}
use Rattle.sgt_model.specs.Replay.{folded}
use Rattle.sgt_model.specs.Values.{settled}
use Rattle.sgt_engine.specs.Cuts.{GoesOn, NobodyLive}
use Rattle.sgt_engine.specs.EngineView.{EngineView, configuration_of}
use Rattle.sgt_c.specs.declared.cutting.Uncut.{Uncut}
use Rattle.sgt_c.specs.declared.cutting.Uncut.TheVariants.{StillLive, LastPart, NoMemory}
use Rattle.sgt_c.specs.declared.held.Held.{Held}
use Rattle.sgt_engine.specs.Guarantees.{Guarantees}

-- no committed value changes
abbrev pub CommitsAreKept : EngineView → EngineView → Type 0
CommitsAreKept before after = (k : Key) → settled (contents_of after.opening) after.past k ≡ settled (contents_of before.opening) before.past k

-- the engine continues with an empty history, from the committed database that the replay of the past gives; the
-- headline holds of the past
abbrev pub IsCut : EngineView → EngineView → Type 0
IsCut before after = GoesOn before after × CommitsAreKept before after × IsByKey after.opening
    × ((k : Key) → contents_of after.opening k ≡ (folded (configuration_of before) before.past).last k)
    × Guarantees before

-- the same for the content of a handle
abbrev pub Cut : Option Held → Option Held → Type 0
Cut None new = ⊥
Cut (Some h) None = ⊥
Cut (Some h) (Some h') = IsCut h.engine h'.engine × (h'.part ≡ h.part + 1)

-- there is an engine, and one of its transactions is live
abbrev pub IsSomeoneLive : Option Held → Type 0
IsSomeoneLive None = ⊥
IsSomeoneLive (Some h) = ¬ NobodyLive h.engine.past

-- there is an engine, and it has this many live transactions
abbrev pub ReportsLive : Option Held → ℕ → Type 0
ReportsLive None count = ⊥
ReportsLive (Some h) count = count ≡ length (live_ones h.engine.past)

-- no transaction is live, and no number is left for another part
abbrev pub HasNoPart : Held → Type 0
HasNoPart h = NobodyLive h.engine.past × (h.part + 1 ≡ 2 ^ 64)

-- the same for the content of a handle
abbrev pub IsLastPart : Option Held → Type 0
IsLastPart None = ⊥
IsLastPart (Some h) = HasNoPart h

-- why nothing is cut: transactions are live, and this many; or else no number is left; or else an allocation failed
abbrev pub IsTooEarly : Held → Uncut → Type 0
IsTooEarly h (StillLive count) = (¬ NobodyLive h.engine.past) × (count ≡ length (live_ones h.engine.past))
IsTooEarly h LastPart = HasNoPart h
IsTooEarly h NoMemory = NobodyLive h.engine.past × ((h.part + 1 ≡ 2 ^ 64) → ⊥)
