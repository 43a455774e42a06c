-- Calls that one C call runs one after another.
use Rattle.std.specs.Prelude.{◌≡◌, ◌≤◌, ◌<◌, ◌^◌, ℕ, ℤ, Bool, cond, List, [], ◌∷◌, take, Option, Some, None, slice_get}
use Rattle.sgt_model.specs.declared.event.Event.TheVariants.{Start}
use Rattle.sgt_model.specs.declared.reply.Reply.{Reply}
use Rattle.sgt_engine.specs.EngineView.{EngineView}
use Rattle.sgt_c.specs.declared.call_struct.SgtCall.{SgtCall}
use Rattle.sgt_c.specs.declared.held.Held.{Held}
use Rattle.sgt_c.specs.declared.reply_struct.SgtOutcome.{SgtOutcome}
use Rattle.sgt_engine.specs.Guarantees.{Guarantees}
use Rattle.sgt_c.specs.ReplyStructs.{HoldsReply}
use Rattle.sgt_c.specs.Runs.{Runs, GivesUp, IsNumberReported}

-- the procedure number fits 16 bits, and there are at most 4 arguments
abbrev pub IsStartable : SgtCall → Type 0
IsStartable c = (c.procedure < 2 ^ 16) × (c.args ≤ 4)

-- the same, and its caller decided on no access: such a call can be run from its start to its commit
abbrev pub IsRunnable : SgtCall → Type 0
IsRunnable c = IsStartable c × (c.accesses ≡ 0)

-- the arguments of a call
abbrev pub args_in : SgtCall → List ℤ
args_in c = take c.args c.arg

-- the call ran from its start to its last reply; that is in its outcome, with the number of its transaction, or 0 if none was
-- started, and whether one of its steps wrote
abbrev pub RanOne : SgtCall → SgtOutcome → EngineView → EngineView → Type 0
RanOne c o e after = (started : Option ℕ) × (wrote : Bool) × (last : Reply)
    × Runs (Start c.procedure (args_in c)) started wrote last e after
    × IsNumberReported started 0 o.tid × (o.wrote ≡ cond wrote 1 0) × HoldsReply o.reply last

-- each call ran, one after another, and its outcome is at its index
abbrev pub RanAll : List SgtCall → List SgtOutcome → EngineView → EngineView → Type 0
RanAll [] outcomes e after = after ≡ e
RanAll (c ∷ calls) [] e after = ⊥
RanAll (c ∷ calls) (o ∷ outcomes) e after = (between : EngineView) × RanOne c o e between × RanAll calls outcomes between after

-- the calls before this index ran, and the one at it gave up
abbrev pub StoppedAt : ℕ → List SgtCall → List SgtOutcome → EngineView → EngineView → Type 0
StoppedAt at calls outcomes e after = (c : SgtCall) × (between : EngineView) × (started : Option ℕ)
    × (slice_get calls at ≡ Some c) × RanAll (take at calls) outcomes e between
    × GivesUp (Start c.procedure (args_in c)) started between after

-- the same for the content of a handle, with each part of the headline
abbrev pub RanMany : Option Held → List SgtCall → List SgtOutcome → Option Held → Type 0
RanMany None calls outcomes new = ⊥
RanMany (Some h) calls outcomes None = ⊥
RanMany (Some h) calls outcomes (Some h') = RanAll calls outcomes h.engine h'.engine × Guarantees h'.engine × (h'.part ≡ h.part)

-- the same where a call gave up: those before this index ran
abbrev pub GaveUpAt : ℕ → Option Held → List SgtCall → List SgtOutcome → Option Held → Type 0
GaveUpAt at None calls outcomes new = ⊥
GaveUpAt at (Some h) calls outcomes None = ⊥
GaveUpAt at (Some h) calls outcomes (Some h') = StoppedAt at calls outcomes h.engine h'.engine × Guarantees h'.engine × (h'.part ≡ h.part)
