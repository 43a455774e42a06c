-- Facts from rows: the job of a transaction, that it failed, and which of two came after the other.
use Rattle.std.proofs.Common.{◌≡◌, ◌↔◌, ℕ, ◌<◌, ◌≤◌, true, false, inl, inr, arith, List, length, get_or, reverse, Some, None, refl, sym, ap, subst, ◌∙◌, slice_get}
use Rattle.std.proofs.lemmas.Bool.{true≢false}
use Rattle.std.proofs.lemmas.Option.{none-some, same_Some, slice_get_cases, slice_get_past, slice_get_read, slice_get_within}
use Rattle.sgt_model.specs.declared.entry.Entry.{Entry}
use Rattle.sgt_model.specs.Progress.{call_of}
use Rattle.sgt_audit.specs.declared.lives.Life.{Life}
use Rattle.sgt_audit.specs.declared.job.Job.{Job}
use Rattle.sgt_audit.specs.Lives.{call_started, AreLives}
use Rattle.sgt_audit.specs.Outcomes.{call_for, IsFailed, IsOf}
use Rattle.sgt_audit.specs.Spans.{EndsBefore}

-- the row at an index, and one after all of them
pub lent : (lives : List Life) (n t : ℕ) (life : Life) → n < length lives → life ≡ get_or lives n life → n ≡ t
    → slice_get lives t ≡ Some life
lent lives n t life within is same =
    subst (λ k. slice_get lives k ≡ Some life) same (slice_get_read lives (length lives) n life refl within is)

pub not_lent : (lives : List Life) (n t : ℕ) → length lives ≤ n → n ≡ t → slice_get lives t ≡ None
not_lent lives n t following same = subst (λ k. slice_get lives k ≡ None) same (slice_get_past lives n following)

module _ (past : List Entry) (lives : List Life) (are : AreLives past lives) (first second : ℕ) where
  pub never_ended : (a : Life) → slice_get lives first ≡ Some a → a.ended ≡ None → ¬ EndsBefore past first second
  never_ended a at not before = none-some before.ended (sym not ∙ (sym (are.each first a at).ended ∙ before.first_ended))

  pub ends_before : (a b : Life) (ended : ℕ) → slice_get lives first ≡ Some a → slice_get lives second ≡ Some b → a.ended ≡ Some ended
      → (ended < b.started) ↔ EndsBefore past first second
  ends_before a b ended at_first at_second is = (
    (λ less. record {
      ended = ended;
      started = b.started;
      first_ended = (are.each first a at_first).ended ∙ is;
      second_started = (are.each second b at_second).started;
      later = less;
    }),
    λ before. subst (λ n. n < b.started) (same_Some before.ended ended (sym before.first_ended ∙ ((are.each first a at_first).ended ∙ is)))
        (subst (λ n. before.ended < n) (same_Some before.started b.started
        (sym before.second_started ∙ (are.each second b at_second).started)) before.later),
  )

module _ (past : List Entry) (lives : List Life) (are : AreLives past lives) (job : Job) (t : ℕ) where
  -- a transaction without a row was not started
  pub unstarted : slice_get lives t ≡ None → ¬ IsOf past job t
  unstarted out of = let less : t < length lives = subst (λ n. t < n) (sym are.counted) of.started in
      elim (slice_get_cases lives t).1 [
        | inl w ↦ none-some w.0 (sym out ∙ w.2)
        | inr w ↦ let following = w.0 in absurd (omega arith)
      ]

  module _ (life : Life) (at : slice_get lives t ≡ Some life) where
    pub is_of : IsOf past job t ↔ (call_started (reverse past) life.started ≡ Some (call_for job))
    is_of = (
      (λ of. (are.each t life at).call ∙ ap Some of.call),
      λ same. record {
        started = subst (λ n. t < n) are.counted (slice_get_within lives t life at);
        call = same_Some (call_of past t) (call_for job) (sym (are.each t life at).call ∙ same);
      },
    )

    pub has_failed_of : life.failed ≡ true → IsFailed past job t ↔ (call_started (reverse past) life.started ≡ Some (call_for job))
    has_failed_of it = (
      (λ failed. is_of.0 failed.is_of),
      λ same. record { is_of = is_of.1 same; failed = (are.each t life at).failed ∙ it },
    )

    pub not_failed : life.failed ≡ false → ¬ IsFailed past job t
    not_failed not failed = true≢false (sym failed.failed ∙ ((are.each t life at).failed ∙ not))
