-- What an entry of a step, a commit or an abort says of its transaction.
use Rattle.std.proofs.Common.{◌≡◌, ◌≢◌, ◌⊎◌, ℕ, ℤ, Bool, true, false, cond, nat_lt, ◌||◌, List, [], ◌∷◌, ◌++◌, Option, Some, None, refl, sym, ap, subst, append_assoc, ◌∙◌, inl, inr}
use Rattle.std.proofs.lemmas.Bool.{eq-eqb}
use Rattle.sgt_model.specs.declared.entry.Entry.{Entry}
use Rattle.sgt_model.specs.declared.event.Event.{Event}
use Rattle.sgt_model.specs.declared.event.Event.TheVariants.{Step, Commit, Quit}
use Rattle.sgt_model.specs.declared.limits.Asks.{Asks}
use Rattle.sgt_model.specs.declared.limits.Asks.TheVariants.{AtStep, AtCommit}
use Rattle.sgt_model.specs.declared.reply.Fate.{Fate}
use Rattle.sgt_model.specs.declared.reply.Cause.TheVariants as cause
use Rattle.sgt_model.specs.declared.reply.Reply.{Reply}
use Rattle.sgt_model.specs.declared.reply.Reply.TheVariants as reply
use Rattle.sgt_model.specs.declared.short_reply.ShortCause.TheVariants as why
use Rattle.sgt_model.specs.declared.short_reply.ShortReply.{ShortReply}
use Rattle.sgt_model.specs.declared.short_reply.ShortReply.TheVariants as bare
use Rattle.sgt_model.specs.Configurations.{Configuration}
use Rattle.sgt_model.specs.Contents.{Key}
use Rattle.sgt_model.specs.Fates.{live, start_count, fate_of}
use Rattle.sgt_model.specs.Legality.{AbortReply, CommitReply, Legal, LegalReply, MustWait, OfStarted, RaisedCommit, RaisedStep, StepReply}
use Rattle.sgt_model.specs.Progress.{next_of}
use Rattle.sgt_model.specs.Questions.{is_wait, over_in, reports_end}
use Rattle.sgt_model.specs.ShortReplies.{short_reply}
use Rattle.sgt_model.specs.Traces.{Next, Looks, Puts, Ends, Raises}
use Rattle.sgt_model.proofs.Questions.{over_are_not_live, others_end_none}
use Rattle.sgt_progress.specs.Waits.{IsReady, was_told_to_wait}
use Rattle.sgt_progress.proofs.Moves.{of_live}
use Rattle.sgt_progress.proofs.Waits.{ends_are_ready}
use Rattle.sgt_desk.specs.Asks.{IsNewest, IsNotFull, IsNoWait}
use Rattle.sgt_desk.specs.Attempts.{IsNotOver}
use Rattle.sgt_desk.specs.Desks.{ends_short}
use Rattle.sgt_desk.specs.Engines.{Answered}
use Rattle.sgt_desk.specs.Runs.{AreOf, Grows, IsOf}
use Rattle.sgt_desk.proofs.Starts.{full_is}
use Rattle.sgt_desk.proofs.Waking.{ends_short_is}

-- ---- what was added

pub grows_not : (quits : Bool) (t : ℕ) (past : List Entry) → Grows quits t past past
grows_not quits t past = record { later = []; own = tt; is = refl }

pub grows_one : (quits : Bool) (t : ℕ) (e : Entry) (before now : List Entry) → Grows quits t before now → IsOf quits t e.event
    → Grows quits t before (e ∷ now)
grows_one quits t e before now g own = record { later = e ∷ g.later; own = (own, g.own); is = ap (λ l. e ∷ l) g.is }

are_more : (t : ℕ) (later : List Entry) → AreOf false t later → AreOf true t later
are_more t [] all = tt
are_more t (e ∷ later) all = (one all.0, are_more t later all.1)
  where
    one : IsOf false t e.event → IsOf true t e.event
    one (inl own) = inl own
    one (inr never) = absurd (cc never.0)

-- what a turn adds that gives nothing up, a turn may add that does
pub grows_any : (quits : Bool) (t : ℕ) (before after : List Entry) → Grows false t before after → Grows quits t before after
grows_any false t before after g = g
grows_any true t before after g = record { later = g.later; own = are_more t g.later g.own; is = g.is }

are_both : (quits : Bool) (t : ℕ) (later more : List Entry) → AreOf quits t later → AreOf quits t more → AreOf quits t (later ++ more)
are_both quits t [] more a b = b
are_both quits t (e ∷ later) more a b = (a.0, are_both quits t later more a.1 b)

pub grows_on : (quits : Bool) (t : ℕ) (before now after : List Entry) → Grows quits t before now → Grows quits t now after
    → Grows quits t before after
grows_on quits t before now after g h = record {
  later = h.later ++ g.later;
  own = are_both quits t h.later g.later h.own g.own;
  is = h.is ∙ ap (λ l. h.later ++ l) g.is ∙ sym (append_assoc h.later g.later before);
}

-- ---- one event

module _ (s : Configuration) (event : Event) (before after : List Entry) (short : ShortReply) (it : Answered s event before short after) where
  abbrev entry : Entry
  entry = record { event = event; reply = it.reply }

  pub answered_grows : (quits : Bool) (t : ℕ) → IsOf quits t event → Grows quits t before after
  answered_grows quits t own = subst (λ l. Grows quits t before l) (sym it.adds) (grows_one quits t entry before before (grows_not quits t before) own)

-- the reply to an event that names a transaction is not `Full`

no_full_step : (s : Configuration) (past : List Entry) (t : ℕ) (n : Next) → StepReply s past t n reply.Full → ⊥
no_full_step s past t (Looks k) (inl h) = cc h.aborts.is
no_full_step s past t (Looks k) (inr h) = cc h.is
no_full_step s past t (Puts k v) (inl h) = cc h.aborts.is
no_full_step s past t (Puts k v) (inr h) = cc h.is
no_full_step s past t (Ends answers) h = cc h
no_full_step s past t (Raises code) h = raised s.rules.limits.asks h
  where
    raised : (asks : Asks) → RaisedStep asks past t code reply.Full → ⊥
    raised AtStep h = cc h.is
    raised AtCommit h = cc h

no_full_commit : (s : Configuration) (past : List Entry) (t : ℕ) (n : Next) → CommitReply s past t n reply.Full → ⊥
no_full_commit s past t (Looks k) h = cc h
no_full_commit s past t (Puts k v) h = cc h
no_full_commit s past t (Ends answers) (inl h) = cc h.is
no_full_commit s past t (Ends answers) (inr h) = cc h.is
no_full_commit s past t (Raises code) h = raised s.rules.limits.asks h
  where
    raised : (asks : Asks) → RaisedCommit asks past t code reply.Full → ⊥
    raised AtStep h = cc h
    raised AtCommit (inl h) = cc h.is
    raised AtCommit (inr h) = cc h.is

no_full : (b : Bool) (o : Option Fate) (P : Type 0) → (P → ⊥) → OfStarted b o reply.Full P → ⊥
no_full true None P never h = never h
no_full true (Some f) P never h = cc h
no_full false o P never h = cc h

not_full_from : (short : ShortReply) → (short ≢ bare.Full) → IsNotFull short
not_full_from bare.Full never = never refl
not_full_from _ never = tt

pub step_not_full : (s : Configuration) (t : ℕ) (before after : List Entry) (short : ShortReply) → Answered s (Step t) before short after → IsNotFull short
step_not_full s t before after short it = not_full_from short (λ is.
    no_full (nat_lt t (start_count before)) (fate_of before t) (StepReply s before t (next_of s before t) reply.Full) (no_full_step s before t (next_of s before t))
    (subst (λ r. LegalReply s before (Step t) r) (full_is it.reply (it.is_short ∙ is)) it.legal))

pub commit_not_full : (s : Configuration) (t : ℕ) (before after : List Entry) (short : ShortReply) → Answered s (Commit t) before short after
    → IsNotFull short
commit_not_full s t before after short it = not_full_from short (λ is.
    no_full (nat_lt t (start_count before)) (fate_of before t) (CommitReply s before t (next_of s before t) reply.Full) (no_full_commit s before t (next_of s before t))
    (subst (λ r. LegalReply s before (Commit t) r) (full_is it.reply (it.is_short ∙ is)) it.legal))

-- the reply to a step or a commit of a live transaction does not say that it had ended

over_is : (r : Reply) (short : ShortReply) → short_reply r ≡ short → ((f : Fate) → r ≡ reply.Over f → ⊥) → IsNotOver short
over_is (reply.Over f) short is never = absurd (never f refl)
over_is (reply.Started t) short is never = subst IsNotOver is tt
over_is reply.NoProcedure short is never = subst IsNotOver is tt
over_is reply.BadArgs short is never = subst IsNotOver is tt
over_is reply.Spent short is never = subst IsNotOver is tt
over_is reply.Full short is never = subst IsNotOver is tt
over_is reply.Unknown short is never = subst IsNotOver is tt
over_is (reply.Looked k v) short is never = subst IsNotOver is tt
over_is (reply.Wrote k v) short is never = subst IsNotOver is tt
over_is reply.Ended short is never = subst IsNotOver is tt
over_is reply.NotEnded short is never = subst IsNotOver is tt
over_is (reply.Waits t) short is never = subst IsNotOver is tt
over_is (reply.Committed answers) short is never = subst IsNotOver is tt
over_is (reply.Aborted why fell) short is never = subst IsNotOver is tt
over_is (reply.Refused code fell) short is never = subst IsNotOver is tt

module _ (s : Configuration) (past : List Entry) (t : ℕ) (r : Reply) (f : Fate) (is : r ≡ reply.Over f) where
  no_over_step : (n : Next) → StepReply s past t n r → ⊥
  no_over_step (Looks k) (inl h) = cc (sym h.aborts.is ∙ is)
  no_over_step (Looks k) (inr h) = cc (sym h.is ∙ is)
  no_over_step (Puts k v) (inl h) = cc (sym h.aborts.is ∙ is)
  no_over_step (Puts k v) (inr h) = cc (sym h.is ∙ is)
  no_over_step (Ends answers) h = cc (sym h ∙ is)
  no_over_step (Raises code) h = raised s.rules.limits.asks h
    where
      raised : (asks : Asks) → RaisedStep asks past t code r → ⊥
      raised AtStep h = cc (sym h.is ∙ is)
      raised AtCommit h = cc (sym h ∙ is)

  no_over_commit : (n : Next) → CommitReply s past t n r → ⊥
  no_over_commit (Looks k) h = cc (sym h ∙ is)
  no_over_commit (Puts k v) h = cc (sym h ∙ is)
  no_over_commit (Ends answers) (inl h) = cc (sym h.is ∙ is)
  no_over_commit (Ends answers) (inr h) = cc (sym h.is ∙ is)
  no_over_commit (Raises code) h = raised s.rules.limits.asks h
    where
      raised : (asks : Asks) → RaisedCommit asks past t code r → ⊥
      raised AtStep h = cc (sym h ∙ is)
      raised AtCommit (inl h) = cc (sym h.is ∙ is)
      raised AtCommit (inr h) = cc (sym h.is ∙ is)

pub step_not_over : (s : Configuration) (t : ℕ) (before after : List Entry) (short : ShortReply) → Answered s (Step t) before short after
    → live before t ≡ true → IsNotOver short
step_not_over s t before after short it alive = over_is it.reply short it.is_short (λ f is.
    no_over_step s before t it.reply f is (next_of s before t) (of_live before t it.reply (StepReply s before t (next_of s before t) it.reply) alive it.legal))

pub commit_not_over : (s : Configuration) (t : ℕ) (before after : List Entry) (short : ShortReply) → Answered s (Commit t) before short after
    → live before t ≡ true → IsNotOver short
commit_not_over s t before after short it alive = over_is it.reply short it.is_short (λ f is.
    no_over_commit s before t it.reply f is (next_of s before t) (of_live before t it.reply (CommitReply s before t (next_of s before t) it.reply) alive it.legal))

-- ---- an event after which its transaction is not live

-- it is reported to be over
reported : (s : Configuration) (past : List Entry) (event : Event) (r : Reply) (t : ℕ) → Legal s (record { event = event; reply = r } ∷ past)
    → over_in event r ≡ Some t → live (record { event = event; reply = r } ∷ past) t ≡ false
reported s past event r t legal over = over_are_not_live s past (record { event = event; reply = r }) legal t over

-- it was never started
module _ (past : List Entry) (event : Event) (t : ℕ) (not_started : nat_lt t (start_count past) ≡ false) where
  unknown_not_live : live (record { event = event; reply = reply.Unknown } ∷ past) t ≡ false
  unknown_not_live = rw not_started refl

module _ (s : Configuration) (past : List Entry) (t : ℕ) (r : Reply) where
  commit_reports : (n : Next) → CommitReply s past t n r → r ≢ reply.NotEnded → is_wait r ≡ false → reports_end r ≡ true
  commit_reports (Looks k) h early wait = absurd (early h)
  commit_reports (Puts k v) h early wait = absurd (early h)
  commit_reports (Ends answers) (inl h) early wait = absurd (cc (sym (ap is_wait h.is) ∙ wait))
  commit_reports (Ends answers) (inr h) early wait = ap reports_end h.is
  commit_reports (Raises code) h early wait = raised s.rules.limits.asks h
    where
      raised : (asks : Asks) → RaisedCommit asks past t code r → reports_end r ≡ true
      raised AtStep h = absurd (early h)
      raised AtCommit (inl h) = absurd (cc (sym (ap is_wait h.is) ∙ wait))
      raised AtCommit (inr h) = ap reports_end h.is

  -- a step makes an access, finds the end, or ends its transaction
  step_reports : (n : Next) → StepReply s past t n r
      → (reports_end r ≡ true) ⊎ (r ≡ reply.Ended) ⊎ ((k : Key) × (v : Option ℤ) × ((r ≡ reply.Looked k v) ⊎ (r ≡ reply.Wrote k v)))
  step_reports (Looks k) (inl h) = inl (ap reports_end h.aborts.is)
  step_reports (Looks k) (inr h) = inr (inr (k, _, inl h.is))
  step_reports (Puts k v) (inl h) = inl (ap reports_end h.aborts.is)
  step_reports (Puts k v) (inr h) = inr (inr (k, v, inr h.is))
  step_reports (Ends answers) h = inr (inl h)
  step_reports (Raises code) h = raised s.rules.limits.asks h
    where
      raised : (asks : Asks) → RaisedStep asks past t code r
          → (reports_end r ≡ true) ⊎ (r ≡ reply.Ended) ⊎ ((k : Key) × (v : Option ℤ) × ((r ≡ reply.Looked k v) ⊎ (r ≡ reply.Wrote k v)))
      raised AtStep h = inl (ap reports_end h.is)
      raised AtCommit h = inr (inl h)

-- by how the transaction stands before it
commit_gone : (s : Configuration) (past : List Entry) (t : ℕ) (r : Reply) → Legal s (record { event = Commit t; reply = r } ∷ past)
    → r ≢ reply.NotEnded → is_wait r ≡ false → live (record { event = Commit t; reply = r } ∷ past) t ≡ false
commit_gone s past t r legal early wait = by_fate (nat_lt t (start_count past)) (fate_of past t) refl legal.1
  where
    by_fate : (b : Bool) (o : Option Fate) → nat_lt t (start_count past) ≡ b → OfStarted b o r (CommitReply s past t (next_of s past t) r)
        → live (record { event = Commit t; reply = r } ∷ past) t ≡ false
    by_fate true None started h =
        reported s past (Commit t) r t legal (ap (λ b. cond b (Some t) None) (commit_reports s past t r (next_of s past t) h early wait))
    by_fate true (Some f) started h = reported s past (Commit t) r t legal (ap (λ x. over_in (Commit t) x) h)
    by_fate false o started h = subst (λ x. live (record { event = Commit t; reply = x } ∷ past) t ≡ false) (sym h)
        (unknown_not_live past (Commit t) t started)

-- a step that makes never access and finds never end
step_gone : (s : Configuration) (past : List Entry) (t : ℕ) (r : Reply) → Legal s (record { event = Step t; reply = r } ∷ past)
    → r ≢ reply.Ended → ((k : Key) (v : Option ℤ) → (r ≡ reply.Looked k v) ⊎ (r ≡ reply.Wrote k v) → ⊥)
    → live (record { event = Step t; reply = r } ∷ past) t ≡ false
step_gone s past t r legal end access = by_fate (nat_lt t (start_count past)) (fate_of past t) refl legal.1
  where
    by_reply : (reports_end r ≡ true) ⊎ (r ≡ reply.Ended) ⊎ ((k : Key) × (v : Option ℤ) × ((r ≡ reply.Looked k v) ⊎ (r ≡ reply.Wrote k v)))
        → live (record { event = Step t; reply = r } ∷ past) t ≡ false
    by_reply (inl over) = reported s past (Step t) r t legal (ap (λ b. cond b (Some t) None) over)
    by_reply (inr (inl is)) = absurd (end is)
    by_reply (inr (inr made)) = absurd (access made.0 made.1 made.2)

    by_fate : (b : Bool) (o : Option Fate) → nat_lt t (start_count past) ≡ b → OfStarted b o r (StepReply s past t (next_of s past t) r)
        → live (record { event = Step t; reply = r } ∷ past) t ≡ false
    by_fate true None started h = by_reply (step_reports s past t r (next_of s past t) h)
    by_fate true (Some f) started h = reported s past (Step t) r t legal (ap (λ x. over_in (Step t) x) h)
    by_fate false o started h = subst (λ x. live (record { event = Step t; reply = x } ∷ past) t ≡ false) (sym h)
        (unknown_not_live past (Step t) t started)

-- ---- the same by what was answered

wait_short : (r : Reply) (short : ShortReply) → short_reply r ≡ short → IsNoWait short → is_wait r ≡ false
wait_short (reply.Waits u) short is never = absurd (subst IsNoWait (sym is) never)
wait_short _ short is never = refl

pub answered_commit_gone : (s : Configuration) (t : ℕ) (before after : List Entry) (short : ShortReply) → Answered s (Commit t) before short after
    → Legal s after → IsReady s before t → IsNoWait short → live after t ≡ false
answered_commit_gone s t before after short it legal ready never =
    subst (λ l. live l t ≡ false) (sym it.adds) (commit_gone s before t it.reply (subst (Legal s) it.adds legal)
    (ready it.reply it.legal) (wait_short it.reply short it.is_short never))

-- never access, and not the end
abbrev pub IsLast : ShortReply → Type 0
IsLast (bare.Looked k v) = ⊥
IsLast (bare.Wrote k v) = ⊥
IsLast bare.Ended = ⊥
IsLast _ = Unit {0}

pub last_from : (short : ShortReply) → ((k : Key) (v : Option ℤ) → short ≡ bare.Looked k v → ⊥) → ((k : Key) (v : Option ℤ) → short ≡ bare.Wrote k v → ⊥)
    → short ≢ bare.Ended → IsLast short
last_from (bare.Looked k v) read wrote end = read k v refl
last_from (bare.Wrote k v) read wrote end = wrote k v refl
last_from bare.Ended read wrote end = end refl
last_from _ read wrote end = tt

pub answered_step_gone : (s : Configuration) (t : ℕ) (before after : List Entry) (short : ShortReply) → Answered s (Step t) before short after
    → Legal s after → IsLast short → live after t ≡ false
answered_step_gone s t before after short it legal last =
    subst (λ l. live l t ≡ false) (sym it.adds) (step_gone s before t it.reply (subst (Legal s) it.adds legal)
    (λ is. subst IsLast (sym it.is_short ∙ ap short_reply is) last)
    (λ k v. λ made. access k v made))
  where
    access : (k : Key) (v : Option ℤ) → (it.reply ≡ reply.Looked k v) ⊎ (it.reply ≡ reply.Wrote k v) → ⊥
    access k v (inl is) = subst IsLast (sym it.is_short ∙ ap short_reply is) last
    access k v (inr is) = subst IsLast (sym it.is_short ∙ ap short_reply is) last

ended_is : (r : Reply) → short_reply r ≡ bare.Ended → r ≡ reply.Ended
ended_is reply.Ended e = refl
ended_is (reply.Started t) e = absurd cc
ended_is reply.NoProcedure e = absurd cc
ended_is reply.BadArgs e = absurd cc
ended_is reply.Spent e = absurd cc
ended_is reply.Full e = absurd cc
ended_is reply.Unknown e = absurd cc
ended_is (reply.Over f) e = absurd cc
ended_is (reply.Looked k v) e = absurd cc
ended_is (reply.Wrote k v) e = absurd cc
ended_is reply.NotEnded e = absurd cc
ended_is (reply.Waits t) e = absurd cc
ended_is (reply.Committed answers) e = absurd cc
ended_is (reply.Aborted why fell) e = absurd cc
ended_is (reply.Refused code fell) e = absurd cc

-- a step that was answered `Ended` leaves its transaction ready
pub answered_ready : (s : Configuration) (t : ℕ) (before after : List Entry) → Answered s (Step t) before bare.Ended after → Legal s after
    → IsReady s after t
answered_ready s t before after it legal =
    let full : it.reply ≡ reply.Ended = ended_is it.reply it.is_short in
    subst (λ l. IsReady s l t) (sym (it.adds ∙ ap (λ r. record { event = Step t; reply = r } ∷ before) full))
    (ends_are_ready s before t (subst (Legal s) it.adds legal).0 (subst (λ r. LegalReply s before (Step t) r) full it.legal))

-- any entry that ends none leaves who is live
pub answered_live : (s : Configuration) (event : Event) (t : ℕ) (before after : List Entry) (short : ShortReply) → Answered s event before short after
    → ends_short short ≡ false → live before t ≡ true → live after t ≡ true
answered_live s event t before after short it ends alive =
    subst (λ l. live l t ≡ true) (sym it.adds) (others_end_none before (record { event = event; reply = it.reply })
    (sym (ends_short_is it.reply) ∙ ap ends_short it.is_short ∙ ends) t alive)

-- a commit that was told to wait

waits_is : (r : Reply) (u : ℕ) → short_reply r ≡ bare.Waits u → r ≡ reply.Waits u
waits_is (reply.Waits t) u e = ap reply.Waits (cc e)
waits_is reply.Ended u e = absurd (cc e)
waits_is (reply.Started t) u e = absurd (cc e)
waits_is reply.NoProcedure u e = absurd (cc e)
waits_is reply.BadArgs u e = absurd (cc e)
waits_is reply.Spent u e = absurd (cc e)
waits_is reply.Full u e = absurd (cc e)
waits_is reply.Unknown u e = absurd (cc e)
waits_is (reply.Over f) u e = absurd (cc e)
waits_is (reply.Looked k v) u e = absurd (cc e)
waits_is (reply.Wrote k v) u e = absurd (cc e)
waits_is reply.NotEnded u e = absurd (cc e)
waits_is (reply.Committed answers) u e = absurd (cc e)
waits_is (reply.Aborted why fell) u e = absurd (cc e)
waits_is (reply.Refused code fell) u e = absurd (cc e)

module _ (s : Configuration) (past : List Entry) (t u : ℕ) where
  waits_for_another : (n : Next) → CommitReply s past t n (reply.Waits u) → u ≢ t
  waits_for_another (Looks k) h = absurd (cc h)
  waits_for_another (Puts k v) h = absurd (cc h)
  waits_for_another (Ends answers) (inl h) = another h
    where
      another : MustWait past t (reply.Waits u) → u ≢ t
      another w same = let is : u ≡ w.predecessor = cc w.is in w.least.pair.pair.apart (sym is ∙ same)
  waits_for_another (Ends answers) (inr h) = absurd (cc h.is)
  waits_for_another (Raises code) h = raised s.rules.limits.asks h
    where
      another : MustWait past t (reply.Waits u) → u ≢ t
      another w same = let is : u ≡ w.predecessor = cc w.is in w.least.pair.pair.apart (sym is ∙ same)

      raised : (asks : Asks) → RaisedCommit asks past t code (reply.Waits u) → u ≢ t
      raised AtStep h = absurd (cc h)
      raised AtCommit (inl h) = another h
      raised AtCommit (inr h) = absurd (cc h.is)

  another_waits : (b : Bool) (o : Option Fate) → OfStarted b o (reply.Waits u) (CommitReply s past t (next_of s past t) (reply.Waits u)) → u ≢ t
  another_waits true None h = waits_for_another (next_of s past t) h
  another_waits true (Some f) h = absurd (cc h)
  another_waits false o h = absurd (cc h)

-- it is on record, and waits for another one
pub record Told (t u : ℕ) (after : List Entry) : Type 0 where
  pub newest : IsNewest (Commit t) (bare.Waits u) after
  pub on_record : was_told_to_wait after t ≡ true
  pub another : u ≢ t

pub answered_told : (s : Configuration) (t u : ℕ) (before after : List Entry) → Answered s (Commit t) before (bare.Waits u) after → Told t u after
answered_told s t u before after it =
    let full : it.reply ≡ reply.Waits u = waits_is it.reply u it.is_short in
    subst (λ l. Told t u l) (sym (it.adds ∙ ap (λ r. record { event = Commit t; reply = r } ∷ before) full)) (record {
      newest = (refl, refl);
      on_record = ap (λ b. b || was_told_to_wait before t) (eq-eqb t t refl);
      another = another_waits s before t u (nat_lt t (start_count before)) (fate_of before t)
          (subst (λ r. LegalReply s before (Commit t) r) full it.legal);
    })

-- an abort

quit_is : (past : List Entry) (t : ℕ) (r : Reply) → AbortReply past t cause.Quit r → short_reply r ≡ bare.Aborted why.Quit
quit_is past t r h = ap short_reply h.is

pub answered_quit : (s : Configuration) (t : ℕ) (before after : List Entry) (short : ShortReply) → Answered s (Quit t) before short after
    → live before t ≡ true → short ≡ bare.Aborted why.Quit
answered_quit s t before after short it alive =
    sym it.is_short ∙ quit_is before t it.reply (of_live before t it.reply (AbortReply before t cause.Quit it.reply) alive it.legal)
