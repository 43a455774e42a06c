-- What each outcome says of the history. Here the history is listed oldest first, as in a report, so that entry n is
-- the n-th of the list. Definitions that need it newest first take its reverse.
use Rattle.std.specs.Prelude.{◌≡◌, ℕ, ◌+◌, ◌<◌, Bool, true, false, List, [], length, reverse, Option, Some, None, slice_get, slice_index}
use Rattle.std.specs.List.{All}
use Rattle.sgt_model.specs.declared.reply.Reply.{Reply}
use Rattle.sgt_model.specs.declared.reply.Cause.TheVariants as cause
use Rattle.sgt_model.specs.declared.reply.Fate.{Fate}
use Rattle.sgt_model.specs.declared.reply.Fate.TheVariants as fate
use Rattle.sgt_model.specs.declared.entry.Entry.{Entry}
use Rattle.sgt_model.specs.Fates.{start_count, fate_of}
use Rattle.sgt_model.specs.Progress.{Call, call_at, call_of}
use Rattle.sgt_model.specs.Questions.{named_by, refuses_start, is_commit, is_raised}
use Rattle.sgt_audit.specs.declared.job.Job.{Job}
use Rattle.sgt_audit.specs.declared.outcome.Outcome.{Outcome}
use Rattle.sgt_audit.specs.declared.outcome.Outcome.TheVariants as outcome
use Rattle.sgt_audit.specs.Spans.{EndsBefore}

-- jobs and their transactions

-- what a job calls
abbrev pub call_for : Job → Call
call_for job = record { procedure = job.procedure; args = job.args; caller_accesses = [] }

-- t belongs to the job: it was started with the job's procedure and arguments
pub record IsOf (past : List Entry) (job : Job) (t : ℕ) : Type 0 where
  pub started : t < start_count past
  pub call : call_of past t ≡ call_for job

-- fates

-- aborted by a cycle or in cascade
abbrev pub has_failed : Option Fate → Bool
has_failed None = false
has_failed (Some fate.Committed) = false
has_failed (Some (fate.Aborted (cause.Cycle cycle))) = true
has_failed (Some (fate.Aborted (cause.Asked code))) = false
has_failed (Some (fate.Aborted cause.Quit)) = false
has_failed (Some (fate.Fell first)) = true

-- outcomes

-- entry n has such a reply, to an event of a transaction of the job
pub record Ends (is : Reply → Bool) (history : List Entry) (job : Job) (n : ℕ) : Type 0 where
  pub entry : Entry
  pub there : slice_get history n ≡ Some entry
  pub reply_is : is entry.reply ≡ true
  pub t : ℕ
  pub names : named_by entry.event ≡ Some t
  pub is_of : IsOf (reverse history) job t

-- entry n refuses a start with the job's procedure and arguments
pub record StartIsRefused (history : List Entry) (job : Job) (n : ℕ) : Type 0 where
  pub entry : Entry
  pub there : slice_get history n ≡ Some entry
  pub asks : call_at entry.event ≡ Some (call_for job)
  pub reply_is : refuses_start entry.reply ≡ true

-- t is a transaction of the job that was aborted by a cycle or in cascade
pub record IsFailed (past : List Entry) (job : Job) (t : ℕ) : Type 0 where
  pub is_of : IsOf past job t
  pub failed : has_failed (fate_of past t) ≡ true

-- there are as many attempts as tries are allowed; each is a transaction of the job that was aborted by a cycle or in
-- cascade. Each but the first was started after the previous one had ended
pub record GaveUp (past : List Entry) (tries : ℕ) (job : Job) (attempts : List ℕ) : Type 0 where
  pub as_many : length attempts ≡ tries
  pub failed : All (IsFailed past job) attempts
  pub in_turn : (k : ℕ) → k + 1 < length attempts → EndsBefore past (slice_index attempts k) (slice_index attempts (k + 1))

-- what an outcome says of the history and its job
abbrev pub OutcomeStands : {N : Type 0} → List Entry → ℕ → Job → Outcome N → Type 0
OutcomeStands history tries job (outcome.Done n) = Ends is_commit history job n
OutcomeStands history tries job (outcome.Asked n) = Ends is_raised history job n
OutcomeStands history tries job (outcome.Gave attempts) = GaveUp (reverse history) tries job attempts.items
OutcomeStands history tries job (outcome.Refused n) = StartIsRefused history job n
OutcomeStands history tries job (outcome.Left note) = Unit {0}
OutcomeStands history tries job outcome.Untaken = Unit {0}
OutcomeStands history tries job outcome.NoMemory = Unit {0}
