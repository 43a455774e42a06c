-- True outcomes name started transactions and existing entries.
use Rattle.std.proofs.Common.{◌≡◌, ℕ, ◌<◌, Bool, List, [], ◌∷◌, length, reverse, Some, slice_get, sym, ap, subst, ◌∙◌}
use Rattle.std.specs.List.{All, AllZip, flat_map}
use Rattle.std.specs.Option.{option_and_then, option_to_list}
use Rattle.std.proofs.lemmas.List.Elements.{All-nil, All-cons, All-append, All-weaker}
use Rattle.std.proofs.lemmas.Option.{slice_get_within}
use Rattle.sgt_model.specs.declared.reply.Reply.{Reply}
use Rattle.sgt_model.specs.declared.entry.Entry.{Entry}
use Rattle.sgt_model.specs.Fates.{start_count}
use Rattle.sgt_audit.specs.declared.job.Job.{Job}
use Rattle.sgt_audit.specs.declared.outcome.Outcome.{Outcome}
use Rattle.sgt_audit.specs.declared.outcome.Outcome.TheVariants as outcome
use Rattle.sgt_model.specs.Questions.{named_by, is_commit, is_raised}
use Rattle.sgt_audit.specs.Outcomes.{Ends, IsFailed, OutcomeStands}
use Rattle.sgt_audit.specs.AllOutcomes.{entries_of, transaction_at, transactions_of}

module _ (history : List Entry) (tries : ℕ) where
  abbrev is_started : ℕ → Type 0
  is_started t = t < start_count (reverse history)

  abbrev is_entry : ℕ → Type 0
  is_entry n = n < length history

  ended_started : (is : Reply → Bool) (job : Job) (n : ℕ) → Ends is history job n → All is_started (transaction_at history n)
  ended_started is job n e =
      let one : transaction_at history n ≡ e.t ∷ [] =
      ap (λ o. option_to_list (option_and_then (λ (x : Entry). named_by x.event) o)) e.there ∙ ap option_to_list e.names in
      subst (All is_started) (sym one) (All-cons is_started e.t [] e.is_of.started (All-nil is_started))

  one_entry : (n : ℕ) (e : Entry) → slice_get history n ≡ Some e → All is_entry (n ∷ [])
  one_entry n e there = All-cons is_entry n [] (slice_get_within history n e there) (All-nil is_entry)

  transactions_started : {N : Type 0} (job : Job) (o : Outcome N) → OutcomeStands history tries job o
      → All is_started (transactions_of history o)
  transactions_started job (outcome.Done n) h = ended_started is_commit job n h
  transactions_started job (outcome.Asked n) h = ended_started is_raised job n h
  transactions_started job (outcome.Gave attempts) h = All-weaker (IsFailed (reverse history) job) is_started
      (λ t f. f.is_of.started) attempts.items h.failed
  transactions_started job (outcome.Refused n) h = All-nil is_started
  transactions_started job (outcome.Left note) h = All-nil is_started
  transactions_started job outcome.Untaken h = All-nil is_started
  transactions_started job outcome.NoMemory h = All-nil is_started

  entries_there : {N : Type 0} (job : Job) (o : Outcome N) → OutcomeStands history tries job o → All is_entry (entries_of o)
  entries_there job (outcome.Done n) h = one_entry n h.entry h.there
  entries_there job (outcome.Asked n) h = one_entry n h.entry h.there
  entries_there job (outcome.Gave attempts) h = All-nil is_entry
  entries_there job (outcome.Refused n) h = one_entry n h.entry h.there
  entries_there job (outcome.Left note) h = All-nil is_entry
  entries_there job outcome.Untaken h = All-nil is_entry
  entries_there job outcome.NoMemory h = All-nil is_entry

  -- all transactions that are named were started
  pub all_started : {N : Type 0} (jobs : List Job) (outcomes : List (Outcome N))
      → AllZip (OutcomeStands history tries) jobs outcomes → All is_started (flat_map (transactions_of history) outcomes)
  all_started [] [] all = All-nil is_started
  all_started [] (o ∷ outcomes) all = absurd all
  all_started (job ∷ jobs) [] all = absurd all
  all_started (job ∷ jobs) (o ∷ outcomes) all = All-append is_started (transactions_of history o)
      (flat_map (transactions_of history) outcomes) (transactions_started job o all.0) (all_started jobs outcomes all.1)

  -- all entries that are named exist
  pub all_there : {N : Type 0} (jobs : List Job) (outcomes : List (Outcome N)) → AllZip (OutcomeStands history tries) jobs outcomes
      → All is_entry (flat_map entries_of outcomes)
  all_there [] [] all = All-nil is_entry
  all_there [] (o ∷ outcomes) all = absurd all
  all_there (job ∷ jobs) [] all = absurd all
  all_there (job ∷ jobs) (o ∷ outcomes) all = All-append is_entry (entries_of o) (flat_map entries_of outcomes)
      (entries_there job o all.0) (all_there jobs outcomes all.1)
