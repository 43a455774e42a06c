-- A procedure that is at its end stays there, whatever is asked, by induction over the history.
use Rattle.std.specs.Prelude.{◌≡◌, ℕ, ◌<◌, ℤ, Bool, true, false, ◌||◌, ◌⊎◌, nat_eq, nat_lt, List, [], ◌∷◌, length, Option, Some, None}
use Rattle.std.proofs.Common.{refl, sym, ap, ap₂, ◌∙◌, subst, inl, inr}
use Rattle.std.proofs.lemmas.Bool.{eqb-true, eq-eqb, ltb-true}
use Rattle.sgt_model.specs.declared.event.Event.{Event}
use Rattle.sgt_model.specs.declared.event.Event.TheVariants.{Start, Step, Commit, Quit}
use Rattle.sgt_model.specs.declared.event.Event.TheVariants as event
use Rattle.sgt_model.specs.declared.limits.Asks.{Asks}
use Rattle.sgt_model.specs.declared.limits.Asks.TheVariants.{AtStep, AtCommit}
use Rattle.sgt_model.specs.declared.reply.Fate.{Fate}
use Rattle.sgt_model.specs.declared.reply.Reply.{Reply}
use Rattle.sgt_model.specs.declared.reply.Reply.TheVariants as reply
use Rattle.sgt_model.specs.declared.entry.Entry.{Entry}
use Rattle.sgt_model.specs.Runs.{Run}
use Rattle.sgt_model.specs.Traces.{Next, Looks, Puts, Ends, Raises, trace, next_at}
use Rattle.sgt_model.specs.Accesses.{Access, access_of, acts}
use Rattle.sgt_model.specs.Fates.{start_count, fate_of}
use Rattle.sgt_model.specs.Configurations.{Configuration}
use Rattle.sgt_model.specs.Progress.{Call, call_of, caller_accesses, run_of, values_read, next_of}
use Rattle.sgt_model.specs.Legality.{Legal, LegalReply, OfStarted, CommitReply, RaisedCommit, StepReply, RaisedStep}
use Rattle.sgt_model.proofs.Acts.{requests_of}
use Rattle.sgt_model.proofs.Effects.{Fits, Made}
use Rattle.sgt_model.proofs.Facts.{call-kept, access-fits, started-stays}
use Rattle.sgt_model.proofs.Plays.{act_none, act_other, act_own, own_end, plays}
use Rattle.sgt_model.proofs.Traces.{past_end}
use Rattle.sgt_progress.specs.Waits.{told_in, was_told_to_wait, IsReady, WaitsStayReady, EndsAreReady}

-- ---- a procedure at its end, by what it does next

abbrev IsRaisedAtCommit : Asks → Type 0
IsRaisedAtCommit AtStep = ⊥
IsRaisedAtCommit AtCommit = Unit {0}

-- only a commit is left
abbrev IsAtEnd : Asks → Next → Type 0
IsAtEnd asks (Looks k) = ⊥
IsAtEnd asks (Puts k v) = ⊥
IsAtEnd asks (Ends answers) = Unit {0}
IsAtEnd asks (Raises code) = IsRaisedAtCommit asks

-- it was started, and only its commit is left
record AtEnd (s : Configuration) (past : List Entry) (t : ℕ) : Type 0 where
  started : t < start_count past
  next : IsAtEnd s.rules.limits.asks (next_of s past t)

-- ---- its commit is not too early

module _ (past : List Entry) (t : ℕ) (r : Reply) (is : r ≡ reply.NotEnded) where
  raised_in_time : (asks : Asks) (code : ℕ) → IsRaisedAtCommit asks → RaisedCommit asks past t code r → ⊥
  raised_in_time AtStep code end h = end
  raised_in_time AtCommit code end (inl w) = cc (sym w.is ∙ is)
  raised_in_time AtCommit code end (inr m) = cc (sym m.is ∙ is)

  in_time : (s : Configuration) (n : Next) → IsAtEnd s.rules.limits.asks n → CommitReply s past t n r → ⊥
  in_time s (Looks k) end h = end
  in_time s (Puts k v) end h = end
  in_time s (Ends answers) end (inl w) = cc (sym w.is ∙ is)
  in_time s (Ends answers) end (inr m) = cc (sym m.is ∙ is)
  in_time s (Raises code) end h = raised_in_time s.rules.limits.asks code end h

at_end_is_ready : (s : Configuration) (past : List Entry) (t : ℕ) → IsAtEnd s.rules.limits.asks (next_of s past t) → IsReady s past t
at_end_is_ready s past t end r h is = by_fate (nat_lt t (start_count past)) (fate_of past t) h
  where
    by_fate : (b : Bool) (o : Option Fate) → OfStarted b o r (CommitReply s past t (next_of s past t) r) → ⊥
    by_fate true None h = in_time past t r is s (next_of s past t) end h
    by_fate true (Some f) h = cc (sym h ∙ is)
    by_fate false o h = cc (sym h ∙ is)

-- ---- it stays at its end

pub end_goes_on : (s : Configuration) (past : List Entry) (e : Entry) → Legal s (e ∷ past) → (t : ℕ) → t < start_count past → (answers : List ℤ)
    → next_of s past t ≡ Ends answers → (a : Access) → access_of e ≡ Some a → a.by ≡ t → next_of s (e ∷ past) t ≡ Ends answers
end_goes_on s past e legal t started answers end a is own =
    let run : Run = run_of s.rules (call_of past t) in
    let p = plays s past t legal.0 in
    let at_end = own_end run (caller_accesses past t) (acts past t) answers p end in
    ap₂ (λ (q : Call) (l : List Access). requests_of (run_of s.rules q) (values_read l) (length l))
    (call-kept s past e t legal.1 started)
    (act_own (access_of e) a t (acts past t) is own ∙ ap (λ l. a ∷ l) p.all_are)
    ∙ past_end run p.own answers p.as_requested at_end (a ∷ p.more)

fits_no_end : (asks : Asks) (n : Next) (a : Access) → IsAtEnd asks n → Fits n a → ⊥
fits_no_end asks (Looks k) a end fits = end
fits_no_end asks (Puts k v) a end fits = end
fits_no_end asks (Ends answers) a end fits = fits
fits_no_end asks (Raises code) a end fits = fits

-- an access that is made at the end is its caller's, and the procedure raises no code
made_at_end : (asks : Asks) (n : Next) (v : Event) (a : Access) → IsAtEnd asks n → Made n v a → (answers : List ℤ) × (n ≡ Ends answers)
made_at_end asks n (Step u) a end made = absurd (fits_no_end asks n a end made)
made_at_end asks n (event.Access u d) a end made = (made.0, made.1)
made_at_end asks n (Start p args) a end made = absurd made
made_at_end asks n (Commit u) a end made = absurd made
made_at_end asks n (Quit u) a end made = absurd made

module _ (s : Configuration) (past : List Entry) (e : Entry) (legal : Legal s (e ∷ past)) (t : ℕ) (before : AtEnd s past t) where
  same_next : acts (e ∷ past) t ≡ acts past t → next_of s (e ∷ past) t ≡ next_of s past t
  same_next same = ap₂ (λ (q : Call) (l : List Access). next_at (trace (run_of s.rules q) (values_read l)) (length l))
      (call-kept s past e t legal.1 before.started) same

  next_stays : IsAtEnd s.rules.limits.asks (next_of s (e ∷ past) t)
  next_stays = by_access (access_of e) refl
    where
      as_before : acts (e ∷ past) t ≡ acts past t → IsAtEnd s.rules.limits.asks (next_of s (e ∷ past) t)
      as_before same = subst (λ n. IsAtEnd s.rules.limits.asks n) (sym (same_next same)) before.next

      by_owner : (a : Access) → access_of e ≡ Some a → (b : Bool) → nat_eq a.by t ≡ b → IsAtEnd s.rules.limits.asks (next_of s (e ∷ past) t)
      by_owner a is true own =
          let by : a.by ≡ t = eqb-true a.by t own in
          let end = made_at_end s.rules.limits.asks (next_of s past t) e.event a before.next
          (subst (λ u. Made (next_of s past u) e.event a) by (access-fits s past e.event e.reply legal.1 a is)) in
          subst (λ n. IsAtEnd s.rules.limits.asks n) (sym (end_goes_on s past e legal t before.started end.0 end.1 a is by)) tt
      by_owner a is false other = as_before (act_other (access_of e) a t (acts past t) is (λ e. cc (sym (eq-eqb a.by t e) ∙ other)))

      by_access : (o : Option Access) → access_of e ≡ o → IsAtEnd s.rules.limits.asks (next_of s (e ∷ past) t)
      by_access None is = as_before (act_none (access_of e) t (acts past t) is)
      by_access (Some a) is = by_owner a is (nat_eq a.by t) refl

  stays : AtEnd s (e ∷ past) t
  stays = record { started = started-stays e past t before.started; next = next_stays }

-- ---- who was told to wait was at its end

module _ (s : Configuration) (past : List Entry) (t v : ℕ) where
  raised_then : (asks : Asks) (code : ℕ) → RaisedCommit asks past t code (reply.Waits v) → IsRaisedAtCommit asks
  raised_then AtStep code h = absurd (cc h)
  raised_then AtCommit code h = tt

  end_then : (n : Next) → CommitReply s past t n (reply.Waits v) → IsAtEnd s.rules.limits.asks n
  end_then (Looks k) h = absurd (cc h)
  end_then (Puts k w) h = absurd (cc h)
  end_then (Ends answers) h = tt
  end_then (Raises code) h = raised_then s.rules.limits.asks code h

  waited_at_end : LegalReply s past (Commit t) (reply.Waits v) → AtEnd s past t
  waited_at_end h = by_fate (nat_lt t (start_count past)) (fate_of past t) refl h
    where
      by_fate : (b : Bool) (o : Option Fate) → nat_lt t (start_count past) ≡ b
          → OfStarted b o (reply.Waits v) (CommitReply s past t (next_of s past t) (reply.Waits v)) → AtEnd s past t
      by_fate true None started h = record { started = ltb-true t (start_count past) started; next = end_then (next_of s past t) h }
      by_fate true (Some f) started h = absurd (cc h)
      by_fate false o started h = absurd (cc h)

told_at_end : (s : Configuration) (past : List Entry) (v : Event) (r : Reply) (t : ℕ) → LegalReply s past v r → told_in v r t ≡ true → AtEnd s past t
told_at_end s past (Commit u) (reply.Waits w) t h told = subst (λ x. AtEnd s past x) (eqb-true u t told) (waited_at_end s past u w h)
told_at_end s past (Commit u) _ t h told = absurd (cc told)
told_at_end s past (Start p args) r t h told = absurd (cc told)
told_at_end s past (Step u) r t h told = absurd (cc told)
told_at_end s past (event.Access u d) r t h told = absurd (cc told)
told_at_end s past (Quit u) r t h told = absurd (cc told)

or_cases : (a b : Bool) → (a || b) ≡ true → (a ≡ true) ⊎ (b ≡ true)
or_cases true b h = inl refl
or_cases false b h = inr h

at_end : (s : Configuration) (past : List Entry) → Legal s past → (t : ℕ) → was_told_to_wait past t ≡ true → AtEnd s past t
at_end s [] legal t told = absurd (cc told)
at_end s (e ∷ past) legal t told =
    stays s past e legal t (by_case (λ before. at_end s past legal.0 t before) (or_cases (told_in e.event e.reply t) (was_told_to_wait past t) told))
  where
    by_case : (was_told_to_wait past t ≡ true → AtEnd s past t) → (told_in e.event e.reply t ≡ true) ⊎ (was_told_to_wait past t ≡ true)
        → AtEnd s past t
    by_case earlier (inl now) = told_at_end s past e.event e.reply t legal.1 now
    by_case earlier (inr before) = earlier before

pub waits_stay_ready : WaitsStayReady
waits_stay_ready s past legal t told = at_end_is_ready s past t (at_end s past legal t told).next

-- ---- a step that was answered `Ended`

module _ (s : Configuration) (past : List Entry) (t : ℕ) where
  raised_at_step : (asks : Asks) (code : ℕ) → RaisedStep asks past t code reply.Ended → IsRaisedAtCommit asks
  raised_at_step AtStep code h = absurd (cc h.is)
  raised_at_step AtCommit code h = tt

  end_at_step : (n : Next) → StepReply s past t n reply.Ended → IsAtEnd s.rules.limits.asks n
  end_at_step (Looks k) (inl h) = absurd (cc h.aborts.is)
  end_at_step (Looks k) (inr h) = absurd (cc h.is)
  end_at_step (Puts k w) (inl h) = absurd (cc h.aborts.is)
  end_at_step (Puts k w) (inr h) = absurd (cc h.is)
  end_at_step (Ends answers) h = tt
  end_at_step (Raises code) h = raised_at_step s.rules.limits.asks code h

  ended_at_end : LegalReply s past (Step t) reply.Ended → AtEnd s past t
  ended_at_end h = by_fate (nat_lt t (start_count past)) (fate_of past t) refl h
    where
      by_fate : (b : Bool) (o : Option Fate) → nat_lt t (start_count past) ≡ b
          → OfStarted b o reply.Ended (StepReply s past t (next_of s past t) reply.Ended) → AtEnd s past t
      by_fate true None started h = record { started = ltb-true t (start_count past) started; next = end_at_step (next_of s past t) h }
      by_fate true (Some f) started h = absurd (cc h)
      by_fate false o started h = absurd (cc h)

pub ends_are_ready : EndsAreReady
ends_are_ready s past t legal h =
    at_end_is_ready s (record { event = Step t; reply = reply.Ended } ∷ past) t
    (next_stays s past (record { event = Step t; reply = reply.Ended }) (legal, h) t (ended_at_end s past t h))
