-- The outcomes of jobs as objects of JSON. An entry that has no such reply gives null: no outcome of a run names one.
use Rattle.std.specs.Prelude.{ℕ, ◌+◌, List, [], ◌∷◌, ◌++◌, length, Option, Some, None, slice_get, codes}
use Rattle.std.specs.Fmt.{decimal, signed_decimal}
use Rattle.sgt_model.specs.declared.reply.Reply.{Reply}
use Rattle.sgt_model.specs.declared.reply.Reply.TheVariants as reply
use Rattle.sgt_model.specs.declared.reply.Cause.{Cause}
use Rattle.sgt_model.specs.declared.reply.Cause.TheVariants as cause
use Rattle.sgt_model.specs.declared.entry.Entry.{Entry}
use Rattle.sgt_model.specs.Databases.{Row}
use Rattle.sgt_format.specs.RecordText.{record_lines}
use Rattle.sgt_reply_json.specs.Lists.{joined, list_text}
use Rattle.sgt_audit.specs.declared.outcome.Outcome.{Outcome}
use Rattle.sgt_audit.specs.declared.outcome.Outcome.TheVariants as outcome

-- a commit, with its answers
abbrev pub commit_members : Reply → List ℕ
commit_members (reply.Committed answers) = joined (codes "\"committed\",\"answers\":" ∷ list_text signed_decimal answers ∷ [])
commit_members _ = codes "null"

-- a code that was raised
abbrev pub code_members : ℕ → List ℕ
code_members code = joined (codes "\"asked\",\"code\":" ∷ decimal code ∷ [])

-- the code of an abort's cause
abbrev pub cause_members : Cause → List ℕ
cause_members (cause.Asked code) = code_members code
cause_members (cause.Cycle cycle) = codes "null"
cause_members cause.Quit = codes "null"

-- an abort because a code was raised, at the step or at the commit
abbrev pub ask_members : Reply → List ℕ
ask_members (reply.Aborted why fell) = cause_members why
ask_members (reply.Refused code fell) = code_members code
ask_members _ = codes "null"

-- a refused start, with the words of its reply
abbrev pub refusal_members : Reply → List ℕ
refusal_members reply.NoProcedure = codes "\"refused\",\"reason\":\"no procedure\""
refusal_members reply.BadArgs = codes "\"refused\",\"reason\":\"bad args\""
refusal_members reply.Spent = codes "\"refused\",\"reason\":\"spent\""
refusal_members reply.Full = codes "\"refused\",\"reason\":\"full\""
refusal_members _ = codes "null"

-- the members of an entry's reply, if the entry exists
abbrev pub members_at : (Reply → List ℕ) → Option Entry → List ℕ
members_at members None = codes "null"
members_at members (Some e) = members e.reply

-- the members of an outcome, by the history whose entries it names
abbrev pub outcome_members : {N : Type 0} → List Entry → Outcome N → List ℕ
outcome_members history (outcome.Done n) = members_at commit_members (slice_get history n)
outcome_members history (outcome.Asked n) = members_at ask_members (slice_get history n)
outcome_members history (outcome.Gave attempts) = codes "\"gave\""
outcome_members history (outcome.Refused n) = members_at refusal_members (slice_get history n)
outcome_members history (outcome.Left note) = codes "\"left\""
outcome_members history outcome.Untaken = codes "\"untaken\""
outcome_members history outcome.NoMemory = codes "\"no memory\""

-- how often a job was tried that was tried in vain this often
abbrev pub tries_of : {N : Type 0} → ℕ → Outcome N → ℕ
tries_of failed (outcome.Done n) = failed + 1
tries_of failed (outcome.Asked n) = failed + 1
tries_of failed (outcome.Gave attempts) = length attempts.items
tries_of failed o = failed

-- the number of the entry with which a job ended, if its outcome names one: of two commits, the lower number came first
abbrev pub event_members : {N : Type 0} → Outcome N → List ℕ
event_members (outcome.Done n) = joined (codes ",\"event\":" ∷ decimal n ∷ [])
event_members (outcome.Asked n) = joined (codes ",\"event\":" ∷ decimal n ∷ [])
event_members o = []

-- the line of job n
abbrev pub outcome_json : {N : Type 0} → ℕ → ℕ → List Entry → Outcome N → List ℕ
outcome_json n failed history o =
    joined (codes "{\"job\":" ∷ decimal n ∷ codes ",\"outcome\":" ∷ []) ++ outcome_members history o ++ event_members o
    ++ joined (codes ",\"tries\":" ∷ decimal (tries_of failed o) ∷ codes "}\n" ∷ [])

-- a count, 0 if there is none
abbrev pub count_or_zero : Option ℕ → ℕ
count_or_zero None = 0
count_or_zero (Some count) = count

-- the lines of outcomes, of the jobs from number n on. Job n was tried in vain as often as the list says at n
abbrev pub outcomes_json : {N : Type 0} → ℕ → List ℕ → List Entry → List (Outcome N) → List ℕ
outcomes_json n failed history [] = []
outcomes_json n failed history (o ∷ os) =
    outcome_json n (count_or_zero (slice_get failed n)) history o ++ outcomes_json (n + 1) failed history os

-- all of them, and then the records of the database
abbrev pub json_text : {N : Type 0} → List ℕ → List Entry → List (Outcome N) → List Row → List ℕ
json_text failed history outcomes rows = outcomes_json 0 failed history outcomes ++ record_lines rows
