-- What the outcomes of all jobs say together.
use Rattle.std.specs.Prelude.{◌≡◌, ℕ, ◌+◌, ◌≤◌, ◌<◌, Bool, true, false, List, [], ◌∷◌, length, reverse, take, slice_get}
use Rattle.std.specs.List.{AllZip, count_by, flat_map}
use Rattle.std.specs.Option.{option_and_then, option_to_list}
use Rattle.sgt_model.specs.declared.entry.Entry.{Entry}
use Rattle.sgt_model.specs.Paths.{Distinct}
use Rattle.sgt_model.specs.Fates.{live, live_ones}
use Rattle.sgt_audit.specs.declared.job.Job.{Job}
use Rattle.sgt_audit.specs.declared.outcome.Outcome.{Outcome}
use Rattle.sgt_audit.specs.declared.outcome.Outcome.TheVariants as outcome
use Rattle.sgt_model.specs.Questions.{named_by, is_commit, is_quit}
use Rattle.sgt_audit.specs.Outcomes.{OutcomeStands}

-- what is named

-- the entry that an outcome names, if any
abbrev pub entries_of : {N : Type 0} → Outcome N → List ℕ
entries_of (outcome.Done n) = n ∷ []
entries_of (outcome.Asked n) = n ∷ []
entries_of (outcome.Gave attempts) = []
entries_of (outcome.Refused n) = n ∷ []
entries_of (outcome.Left note) = []
entries_of outcome.Untaken = []
entries_of outcome.NoMemory = []

-- the transaction that entry n names, if any
abbrev pub transaction_at : List Entry → ℕ → List ℕ
transaction_at history n = option_to_list (option_and_then (λ (e : Entry). named_by e.event) (slice_get history n))

-- the transactions that an outcome names
abbrev pub transactions_of : {N : Type 0} → List Entry → Outcome N → List ℕ
transactions_of history (outcome.Done n) = transaction_at history n
transactions_of history (outcome.Asked n) = transaction_at history n
transactions_of history (outcome.Gave attempts) = attempts.items
transactions_of history (outcome.Refused n) = []
transactions_of history (outcome.Left note) = []
transactions_of history outcome.Untaken = []
transactions_of history outcome.NoMemory = []

-- whether a job was committed
abbrev pub is_done : {N : Type 0} → Outcome N → Bool
is_done (outcome.Done n) = true
is_done _ = false

-- whether its worker left while it had the job
abbrev pub is_left : {N : Type 0} → Outcome N → Bool
is_left (outcome.Left note) = true
is_left _ = false

-- whether no worker took it
abbrev pub is_untaken : {N : Type 0} → Outcome N → Bool
is_untaken outcome.Untaken = true
is_untaken _ = false

-- whether it ended because an allocation failed
abbrev pub is_no_memory : {N : Type 0} → Outcome N → Bool
is_no_memory outcome.NoMemory = true
is_no_memory _ = false

-- all of them

-- the counts that must agree. Each commit is some job's outcome. Each abort by the caller is due to the gate or to a
-- failed allocation. At most as many workers left as there are. A job is left untaken only if all workers have left
pub record CountsAgree {N : Type 0} (history : List Entry) (outcomes : List (Outcome N)) (workers : ℕ) : Type 0 where
  pub commits : count_by (λ (e : Entry). is_commit e.reply) history ≡ count_by is_done outcomes
  pub quits : count_by (λ (e : Entry). is_quit e.reply) history ≤ count_by is_left outcomes + count_by is_no_memory outcomes
  pub left : count_by is_left outcomes ≤ workers
  pub untaken : 0 < count_by is_untaken outcomes → count_by is_left outcomes ≡ workers

-- the same, of the number of commits and of that of aborts by the caller
pub record NumbersAgree {N : Type 0} (committed quit : ℕ) (outcomes : List (Outcome N)) (workers : ℕ) : Type 0 where
  pub commits : committed ≡ count_by is_done outcomes
  pub quits : quit ≤ count_by is_left outcomes + count_by is_no_memory outcomes
  pub left : count_by is_left outcomes ≤ workers
  pub untaken : 0 < count_by is_untaken outcomes → count_by is_left outcomes ≡ workers

-- after every entry at most this many transactions are live
abbrev pub FewLive : List Entry → ℕ → Type 0
FewLive history workers = (n : ℕ) → length (live_ones (reverse (take n history))) ≤ workers

-- after the last entry no transaction is live: each that was started has ended
abbrev pub AllEnded : List Entry → Type 0
AllEnded history = (t : ℕ) → live (reverse history) t ≡ false

-- one outcome for each job, which is true of the history and the job; no transaction and no entry is named twice, by
-- one outcome or by two. The counts agree. At most as many transactions are live as there are workers, and none at the
-- end
pub record OutcomesStand {N : Type 0} (history : List Entry) (jobs : List Job) (outcomes : List (Outcome N)) (workers tries : ℕ) : Type 0 where
  pub each : AllZip (OutcomeStands history tries) jobs outcomes
  pub transactions_once : Distinct (flat_map (transactions_of history) outcomes)
  pub entries_once : Distinct (flat_map entries_of outcomes)
  pub counts : CountsAgree history outcomes workers
  pub few_live : FewLive history workers
  pub all_ended : AllEnded history
