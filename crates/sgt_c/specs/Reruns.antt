-- Command logging: the calls that were read from a history, run again on a new engine.
use Rattle.std.specs.Prelude.{◌≡◌, ℕ, length, map, take, reverse, List, [], ◌∷◌, ◌++◌, Option, Some, None}
use Rattle.std.specs.List.{All}
use Rattle.sgt_model.specs.declared.entry.Entry.{Entry}
use Rattle.sgt_model.specs.Legality.{Legal}
use Rattle.sgt_model.specs.Replay.{RunResult, GaveAnswers, RaisedCode, reported_calls}
use Rattle.sgt_model.specs.Configurations.{Configuration}
use Rattle.sgt_engine.specs.EngineView.{EngineView, configuration_of}
use Rattle.sgt_progress.specs.Alone.{NoneLive}
use Rattle.sgt_progress.specs.GivenCalls.{GivenCall, given_calls, given_of}
use Rattle.sgt_progress.specs.Reruns.{IsOneByOne, ReportTheSame}
use Rattle.sgt_c.specs.declared.call_struct.SgtCall.{SgtCall}
use Rattle.sgt_c.specs.declared.held.Held.{Held}
use Rattle.sgt_c.specs.declared.reply_struct.SgtOutcome.{SgtOutcome}
use Rattle.sgt_c.specs.declared.reply_struct.SgtReply.{SgtReply}
use Rattle.sgt_c.specs.ManyRuns.{IsRunnable, RanMany}
use Rattle.sgt_c.specs.ReplayedCalls.{AreReported, call_in, past_at, result_in}

-- the reply ends a transaction with this result: it is committed with these answers, or refused with this code
abbrev pub HoldsResult : SgtReply → RunResult → Type 0
HoldsResult s (GaveAnswers answers) = (s.kind ≡ 13) × (take s.answers s.answer ≡ answers)
HoldsResult s (RaisedCode code) = (s.kind ≡ 15) × (s.code ≡ code)

-- the outcome of each call ends it with the result that the call has in its struct
abbrev pub HoldResults : List SgtOutcome → List SgtCall → Type 0
HoldResults outcomes [] = Unit {0}
HoldResults [] (c ∷ calls) = ⊥
HoldResults (o ∷ outcomes) (c ∷ calls) = HoldsResult o.reply (result_in c) × HoldResults outcomes calls

-- an engine of this configuration, with an empty history
abbrev pub IsNew : Configuration → EngineView → Type 0
IsNew s e = (configuration_of e ≡ s) × (e.past ≡ [])

-- what is requested of an engine for a call: its procedure with its arguments, and then the accesses that sgt_accesses returns
-- of its transaction. A read asks for no value
abbrev pub given_by : List Entry → SgtCall → GivenCall
given_by now c = given_of (call_in now c)

-- if these calls, and no others, are requested of an engine of this configuration one after another, each with its
-- accesses before its commit, each gets its result again, each such read finds the same again, and the engine ends in
-- the database that was committed after this history. So none of them has to wait or is aborted
abbrev pub GivenReportTheSame : Configuration → List Entry → List GivenCall → Type 0
GivenReportTheSame s past given = (after : EngineView) → (configuration_of after ≡ s) → Legal s after.past → IsOneByOne after.past → NoneLive after.past
    → given_calls after.past ≡ reverse given → (reported_calls after.past ≡ reported_calls past) × ReportTheSame s after.past past

-- if these calls run on a new engine of this configuration by `sgt_run_many`, each gets its result again; and the
-- engine ends in the database that was committed after this history
abbrev pub RunsReportTheSame : Configuration → List Entry → List SgtCall → Type 0
RunsReportTheSame s past calls = (fresh after : Held) (outcomes : List SgtOutcome) → IsNew s fresh.engine
    → RanMany (Some fresh) calls outcomes (Some after) → HoldResults outcomes calls × ReportTheSame s after.engine.past past

-- both are so of calls that were read: the second if their callers decided on no accesses, as those have which sgt_run_many runs
pub record RerunReportsTheSame (s : Configuration) (past now : List Entry) (calls : List SgtCall) : Type 0 where
  pub given : GivenReportTheSame s past (map (given_by now) calls)
  pub runs : All IsRunnable calls → RunsReportTheSame s past calls

-- that is so of the calls that were read up to a position: those read now, from `from` to `next`, after those read earlier,
-- which are the ones before `from`. From 0 there are none earlier
abbrev pub CanBeRerun : Option Held → ℕ → List SgtCall → ℕ → ℕ → Type 0
CanBeRerun None from to count next = ⊥
CanBeRerun (Some h) from to count next = (earlier : List SgtCall) → AreReported (reverse h.engine.past) 0 earlier (length earlier) from
    → RerunReportsTheSame (configuration_of h.engine) (past_at (reverse h.engine.past) next) h.engine.past (earlier ++ take count to)
