-- The line of a job's outcome.
use Rattle.std.specs.Prelude.{ℕ, List, [], ◌++◌, length, Option, Some, None, slice_get, codes}
use Rattle.std.specs.Fmt.{decimal}
use Rattle.sgt_model.specs.declared.reply.Reply.{Reply}
use Rattle.sgt_model.specs.declared.reply.Reply.TheVariants as reply
use Rattle.sgt_model.specs.declared.reply.Cause.{Cause}
use Rattle.sgt_model.specs.declared.reply.Cause.TheVariants as cause
use Rattle.sgt_model.specs.declared.entry.Entry.{Entry}
use Rattle.sgt_format.specs.ReplyText.{committed_text}
use Rattle.sgt_audit.specs.declared.outcome.Outcome.{Outcome}
use Rattle.sgt_audit.specs.declared.outcome.Outcome.TheVariants as outcome

-- a commit, with its answers
abbrev pub commit_words : Reply → List ℕ
commit_words (reply.Committed answers) = committed_text answers
commit_words _ = []

-- a code that was raised
abbrev pub raised_text : ℕ → List ℕ
raised_text code = codes "asked " ++ decimal code

-- the code of an abort's cause
abbrev pub code_words : Cause → List ℕ
code_words (cause.Asked code) = raised_text code
code_words (cause.Cycle cycle) = []
code_words cause.Quit = []

-- an abort because a code was raised, at the step or at the commit
abbrev pub raised_words : Reply → List ℕ
raised_words (reply.Aborted why fell) = code_words why
raised_words (reply.Refused code fell) = raised_text code
raised_words _ = []

-- a refused start, with the number of its reply
abbrev pub refusal_words : Reply → List ℕ
refusal_words reply.NoProcedure = codes "refused 1"
refusal_words reply.BadArgs = codes "refused 2"
refusal_words reply.Spent = codes "refused 3"
refusal_words reply.Full = codes "refused 4"
refusal_words _ = []

-- the words of an entry's reply, if the entry exists
abbrev pub words_at : (Reply → List ℕ) → Option Entry → List ℕ
words_at words None = []
words_at words (Some e) = words e.reply

-- the words of an outcome, by the history whose entries it names
abbrev pub outcome_words : {N : Type 0} → List Entry → Outcome N → List ℕ
outcome_words history (outcome.Done n) = words_at commit_words (slice_get history n)
outcome_words history (outcome.Asked n) = words_at raised_words (slice_get history n)
outcome_words history (outcome.Gave attempts) = codes "gave " ++ decimal (length attempts.items)
outcome_words history (outcome.Refused n) = words_at refusal_words (slice_get history n)
outcome_words history (outcome.Left note) = codes "left"
outcome_words history outcome.Untaken = codes "untaken"
outcome_words history outcome.NoMemory = codes "no memory"

-- a line of these words, after the number of the job
abbrev pub numbered_line : ℕ → List ℕ → List ℕ
numbered_line number words = decimal number ++ codes " " ++ words ++ codes "\n"

-- the line of an outcome
abbrev pub outcome_line : {N : Type 0} → ℕ → List Entry → Outcome N → List ℕ
outcome_line number history o = numbered_line number (outcome_words history o)
