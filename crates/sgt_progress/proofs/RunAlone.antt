-- A transaction that is started where nothing is live, and stepped to its end.
use Rattle.std.specs.Prelude.{◌≡◌, ℕ, ◌+◌, ◌<◌, true, false, cond, ◌⊎◌, List, [], ◌∷◌}
use Rattle.std.proofs.Common.{refl, sym, ap, ◌∙◌, subst, inl, inr, arith}
use Rattle.std.proofs.lemmas.Bool.{both_ways, false_from_ne_true}
use Rattle.sgt_model.specs.declared.event.Event.TheVariants.{Step, Commit}
use Rattle.sgt_model.specs.declared.reply.Reply.{Reply}
use Rattle.sgt_model.specs.declared.reply.Reply.TheVariants as reply
use Rattle.sgt_model.specs.declared.entry.Entry.{Entry}
use Rattle.sgt_model.specs.declared.kind.Kind.{Kind}
use Rattle.sgt_model.specs.declared.limits.Asks.{Asks}
use Rattle.sgt_model.specs.declared.limits.Asks.TheVariants.{AtStep, AtCommit}
use Rattle.sgt_model.specs.Contents.{Key}
use Rattle.sgt_model.specs.Traces.{Next, Looks, Puts, Ends, Raises}
use Rattle.sgt_model.specs.Fates.{is_start, start_count, live}
use Rattle.sgt_model.specs.Questions.{is_ending}
use Rattle.sgt_model.specs.Configurations.{Configuration}
use Rattle.sgt_model.specs.Progress.{next_of}
use Rattle.sgt_model.specs.Legality.{CycleAbortReply, Makes, StepReply, CommitReply, RaisedStep, RaisedCommit, LegalReply, Legal}
use Rattle.sgt_model.proofs.Facts.{live-started, live-before}
use Rattle.sgt_model.proofs.Questions.{endings_end_one}
use Rattle.sgt_progress.specs.Alone.{NoneLive, IsAlone}
use Rattle.sgt_progress.proofs.Alone.{closes_none, waits_for_none}
use Rattle.sgt_progress.proofs.Moves.{of_live}

-- at first nothing is live
pub none_at_first : NoneLive []
none_at_first u = false_from_ne_true (live [] u) (λ alive. let started = live-started [] u alive in omega arith)

-- an entry that starts none leaves nothing live, if nothing was
pub none_stays : (past : List Entry) (e : Entry) → is_start e.reply ≡ false → NoneLive past → NoneLive (e ∷ past)
none_stays past e no_start none u = false_from_ne_true (live (e ∷ past) u) (λ alive. both_ways _ (none u) (live-before e past u alive
    (subst (λ b. u < cond b (start_count past + 1) (start_count past)) no_start (live-started (e ∷ past) u alive))))

ending_starts_none : (r : Reply) → is_ending r ≡ true → is_start r ≡ false
ending_starts_none (reply.Committed answers) h = refl
ending_starts_none (reply.Aborted why fell) h = refl
ending_starts_none (reply.Refused code fell) h = refl
ending_starts_none _ h = absurd cc

-- nothing is live after the end of the only live one
pub none_after_end : (s : Configuration) (past : List Entry) (e : Entry) (t : ℕ) → Legal s (e ∷ past) → IsAlone past t
    → is_ending e.reply ≡ true
    → NoneLive (e ∷ past)
none_after_end s past e t legal alone ending u = false_from_ne_true (live (e ∷ past) u) (λ alive.
    let ended = endings_end_one s past e legal ending in
    let was : live past u ≡ true = live-before e past u alive (subst (λ b. u < cond b (start_count past + 1) (start_count past))
    (ending_starts_none e.reply ending) (live-started (e ∷ past) u alive)) in
    let same : u ≡ ended.0 = alone.only u was ∙ sym (alone.only ended.0 ended.2) in
    both_ways _ ended.3 (subst (λ v. live (e ∷ past) v ≡ true) same alive))

-- a step of the only live one made an access, found its procedure's end, or ended it
abbrev pub StepsSo : Reply → Type 0
StepsSo (reply.Looked k v) = Unit {0}
StepsSo (reply.Wrote k v) = Unit {0}
StepsSo reply.Ended = Unit {0}
StepsSo r = is_ending r ≡ true

module _ (s : Configuration) (past : List Entry) (legal : Legal s past) (t : ℕ) (alone : IsAlone past t) (r : Reply) where
  access_so : (k : Key) (kind : Kind) (given : Reply) → StepsSo given
      → CycleAbortReply past t k kind r ⊎ Makes past t k kind given r → StepsSo r
  access_so k kind given so (inl c) = absurd (closes_none s past legal t alone k kind c.rest c.closes)
  access_so k kind given so (inr m) = subst StepsSo (sym m.is) so

  steps_so : (n : Next) → StepReply s past t n r → StepsSo r
  steps_so (Looks k) h = access_so k _ _ tt h
  steps_so (Puts k v) h = access_so k _ _ tt h
  steps_so (Ends answers) h = subst StepsSo (sym h) tt
  steps_so (Raises code) h = go s.rules.limits.asks h
    where
      go : (asks : Asks) → RaisedStep asks past t code r → StepsSo r
      go AtStep h = subst StepsSo (sym h.is) refl
      go AtCommit h = subst StepsSo (sym h) tt

  pub step_so : LegalReply s past (Step t) r → StepsSo r
  step_so h = steps_so (next_of s past t) (of_live past t r _ alone.is_live h)

-- a step of a live one that found its procedure's end leaves what comes next; then its commit ends it, if it is the only live one
module _ (s : Configuration) (past before : List Entry) (t : ℕ) (alone : IsAlone past t) (r : Reply) where
  commits_so : (n : Next) → StepReply s before t n reply.Ended → CommitReply s past t n r → is_ending r ≡ true
  commits_so (Looks k) (inl c) h = absurd (cc (c.aborts.is))
  commits_so (Looks k) (inr m) h = absurd (cc (m.is))
  commits_so (Puts k v) (inl c) h = absurd (cc (c.aborts.is))
  commits_so (Puts k v) (inr m) h = absurd (cc (m.is))
  commits_so (Ends answers) step (inl w) = absurd (waits_for_none past t alone w.predecessor w.least.pair)
  commits_so (Ends answers) step (inr m) = ap is_ending m.is
  commits_so (Raises code) step h = go s.rules.limits.asks step h
    where
      go : (asks : Asks) → RaisedStep asks before t code reply.Ended → RaisedCommit asks past t code r → is_ending r ≡ true
      go AtStep step h = absurd (cc (step.is))
      go AtCommit step (inl w) = absurd (waits_for_none past t alone w.predecessor w.least.pair)
      go AtCommit step (inr m) = ap is_ending m.is

pub commit_ends : (s : Configuration) (past : List Entry) (t : ℕ) (r : Reply) → live past t ≡ true → LegalReply s past (Step t) reply.Ended
    → IsAlone (record { event = Step t; reply = reply.Ended } ∷ past) t
    → LegalReply s (record { event = Step t; reply = reply.Ended } ∷ past) (Commit t) r → is_ending r ≡ true
commit_ends s past t r alive step alone h =
    commits_so s (record { event = Step t; reply = reply.Ended } ∷ past) past t alone r (next_of s past t)
    (of_live past t reply.Ended _ alive step) (of_live (record { event = Step t; reply = reply.Ended } ∷ past) t r _ alone.is_live h)
