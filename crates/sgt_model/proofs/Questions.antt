-- What an event and its reply report of a transaction is true.
use Rattle.std.proofs.Common.{◌≡◌, ℕ, ◌+◌, Bool, true, false, ◌&&◌, cond, List, ◌∷◌, Option, Some, None, is_none, nat_eq, nat_lt, refl, sym, ap, subst, inl, inr, ◌∙◌, arith, le_refl}
use Rattle.std.proofs.lemmas.Bool.{eq-eqb}
use Rattle.std.specs.List.{list_any}
use Rattle.std.specs.Option.{option_or}
use Rattle.sgt_model.specs.declared.event.Event.{Event}
use Rattle.sgt_model.specs.declared.event.Event.TheVariants.{Start, Step, Access, Commit, Quit}
use Rattle.sgt_model.specs.declared.event.Request.{Request}
use Rattle.sgt_model.specs.declared.reply.Reply.{Reply}
use Rattle.sgt_model.specs.declared.reply.Reply.TheVariants as reply
use Rattle.sgt_model.specs.declared.reply.Cause.{Cause}
use Rattle.sgt_model.specs.declared.reply.Cause.TheVariants as cause
use Rattle.sgt_model.specs.declared.reply.Fate.{Fate}
use Rattle.sgt_model.specs.declared.reply.Fate.TheVariants as fate
use Rattle.sgt_model.specs.declared.entry.Entry.{Entry}
use Rattle.sgt_model.specs.declared.limits.Asks.{Asks}
use Rattle.sgt_model.specs.declared.limits.Asks.TheVariants.{AtStep, AtCommit}
use Rattle.sgt_model.specs.Traces.{Next, Looks, Puts, Ends, Raises}
use Rattle.sgt_model.specs.Fates.{is_start, start_count, concerns, subject, ending_in, fate_of, live}
use Rattle.sgt_model.specs.Questions.{named_by, started_number, started_in, reports_end, over_in, is_ending}
use Rattle.sgt_model.specs.Configurations.{Configuration}
use Rattle.sgt_model.specs.Progress.{next_of, requested, is_fit}
use Rattle.sgt_model.specs.Legality.{RaisedStep, RaisedCommit, AbortReply, StepReply, OfFit, RequestReply, CommitReply, OfStarted, OfLive, LegalReply, Legal}
use Rattle.sgt_model.specs.Aborts.{CauseHolds}
use Rattle.sgt_model.specs.Laws.{StartedAreLive, OverAreNotLive, EndingsEndOne, OthersEndNone}
use Rattle.sgt_model.proofs.Effects.{EndsNone, ends_none-no_end, Effect, idle, begins, accesses, commits, undoes, refuses, effect}
use Rattle.sgt_model.proofs.Facts.{live-started, live-no_fate, live_from, option_or-at_none, some_is, started-stays, unstarted-no_fate}

-- a transaction with a fate is not live

and_false : (b : Bool) → (b && false) ≡ false
and_false true = refl
and_false false = refl

has_fate : (past : List Entry) (t : ℕ) (f : Fate) → fate_of past t ≡ Some f → live past t ≡ false
has_fate past t f e = ap (λ o. nat_lt t (start_count past) && is_none o) e ∙ and_false (nat_lt t (start_count past))

ends_now : (past : List Entry) (e : Entry) (t : ℕ) (f : Fate) → ending_in e.event e.reply t ≡ Some f → live (e ∷ past) t ≡ false
ends_now past e t f now = has_fate (e ∷ past) t f (ap (λ o. option_or o (fate_of past t)) now)

-- a reply that ends one ends the one that its event names

abbrev EndsIt : Event → Reply → ℕ → Type 0
EndsIt event r t = (f : Fate) × (ending_in event r t ≡ Some f)

ends_named : (event : Event) (r : Reply) (t : ℕ) → concerns event t ≡ true → is_ending r ≡ true → EndsIt event r t
ends_named event (reply.Committed answers) t own e = (fate.Committed, ap (λ b. cond b (Some fate.Committed) None) own)
ends_named event (reply.Aborted why fell) t own e = (
  fate.Aborted why,
  ap (λ b. cond b (Some (fate.Aborted why)) (cond (list_any (λ u. nat_eq u t) fell) (Some (fate.Fell (subject event))) None)) own,
)
ends_named event (reply.Refused code fell) t own e = (
  fate.Aborted (cause.Asked code),
  ap (λ b. cond b (Some (fate.Aborted (cause.Asked code))) (cond (list_any (λ u. nat_eq u t) fell) (Some (fate.Fell (subject event))) None))
      own,
)
ends_named event _ t own e = absurd (cc)

-- no reply to a live transaction is Over, so a reply that reports its end ends it

ending_of : (r answer : Reply) → r ≡ answer → (reports_end answer ≡ true → is_ending answer ≡ true) → reports_end r ≡ true
    → is_ending r ≡ true
ending_of r answer is so e = subst (λ x. reports_end x ≡ true → is_ending x ≡ true) (sym is) so e

raised_step_ends : (asks : Asks) (past : List Entry) (t code : ℕ) (r : Reply) → RaisedStep asks past t code r → reports_end r ≡ true
    → is_ending r ≡ true
raised_step_ends AtStep past t code r h = ending_of r _ h.is (λ e. refl)
raised_step_ends AtCommit past t code r h = ending_of r _ h (λ e. e)

step_ends : (s : Configuration) (past : List Entry) (t : ℕ) (n : Next) (r : Reply) → StepReply s past t n r → reports_end r ≡ true
    → is_ending r ≡ true
step_ends s past t (Looks k) r (inl h) = ending_of r _ h.aborts.is (λ e. refl)
step_ends s past t (Looks k) r (inr h) = ending_of r _ h.is (λ e. e)
step_ends s past t (Puts k v) r (inl h) = ending_of r _ h.aborts.is (λ e. refl)
step_ends s past t (Puts k v) r (inr h) = ending_of r _ h.is (λ e. e)
step_ends s past t (Ends answers) r h = ending_of r _ h (λ e. e)
step_ends s past t (Raises code) r h = raised_step_ends s.rules.limits.asks past t code r h

fit_ends : (s : Configuration) (past : List Entry) (t : ℕ) (n : Next) (fit : Bool) (r : Reply) → OfFit fit r (StepReply s past t n r)
    → reports_end r ≡ true → is_ending r ≡ true
fit_ends s past t n true r h = step_ends s past t n r h
fit_ends s past t n false r h = ending_of r _ h (λ e. e)

request_ends : (s : Configuration) (past : List Entry) (t : ℕ) (d : Request) (n : Next) (r : Reply) → RequestReply s past t d n r
    → reports_end r ≡ true → is_ending r ≡ true
request_ends s past t d (Ends answers) r h = fit_ends s past t (requested d) (is_fit d) r h
request_ends s past t d (Looks k) r h = ending_of r _ h (λ e. e)
request_ends s past t d (Puts k v) r h = ending_of r _ h (λ e. e)
request_ends s past t d (Raises code) r h = ending_of r _ h (λ e. e)

raised_commit_ends : (asks : Asks) (past : List Entry) (t code : ℕ) (r : Reply) → RaisedCommit asks past t code r → reports_end r ≡ true
    → is_ending r ≡ true
raised_commit_ends AtStep past t code r h = ending_of r _ h (λ e. e)
raised_commit_ends AtCommit past t code r (inl h) = ending_of r _ h.is (λ e. e)
raised_commit_ends AtCommit past t code r (inr h) = ending_of r _ h.is (λ e. refl)

commit_ends : (s : Configuration) (past : List Entry) (t : ℕ) (n : Next) (r : Reply) → CommitReply s past t n r → reports_end r ≡ true
    → is_ending r ≡ true
commit_ends s past t (Ends answers) r (inl h) = ending_of r _ h.is (λ e. e)
commit_ends s past t (Ends answers) r (inr h) = ending_of r _ h.is (λ e. refl)
commit_ends s past t (Looks k) r h = ending_of r _ h (λ e. e)
commit_ends s past t (Puts k v) r h = ending_of r _ h (λ e. e)
commit_ends s past t (Raises code) r h = raised_commit_ends s.rules.limits.asks past t code r h

-- the transaction of an event is not live after it, where it ends if it was live: else it was not started, or has ended
over_at : (past : List Entry) (e : Entry) (t : ℕ) (P : Type 0) → (P → EndsIt e.event e.reply t) → (b : Bool) (o : Option Fate)
    → nat_lt t (start_count past) ≡ b → fate_of past t ≡ o → OfStarted b o e.reply P → live (e ∷ past) t ≡ false
over_at past e t P ends true None begun ended h = let f = ends h in ends_now past e t f.0 f.1
over_at past e t P ends true (Some f) begun ended h =
    has_fate (e ∷ past) t f (option_or-at_none _ _ (ap (λ r. ending_in e.event r t) h) ∙ ended)
over_at past e t P ends false o begun ended h =
    ap (λ r. nat_lt t (cond (is_start r) (start_count past + 1) (start_count past)) && is_none (fate_of (e ∷ past) t)) h
    ∙ ap (λ b. b && is_none (fate_of (e ∷ past) t)) begun

over : (past : List Entry) (e : Entry) (t : ℕ) (P : Type 0) → (P → EndsIt e.event e.reply t) → OfLive past t e.reply P
    → live (e ∷ past) t ≡ false
over past e t P ends h = over_at past e t P ends (nat_lt t (start_count past)) (fate_of past t) refl refl h

named_own : (u t : ℕ) → Some u ≡ Some t → nat_eq u t ≡ true
named_own u t e = eq-eqb u t (some_is u t e)

-- if a test holds, this many are reported
reported : (b : Bool) (u t : ℕ) → cond b (Some u) None ≡ Some t → (b ≡ true) × (Some u ≡ Some t)
reported true u t e = (refl, e)
reported false u t e = absurd (cc)

pub over_are_not_live : OverAreNotLive
over_are_not_live s past e legal t is = by_event e.event refl is
  where
    by_event : (event : Event) → e.event ≡ event → over_in event e.reply ≡ Some t → live (e ∷ past) t ≡ false
    by_event (Start p args) same x = absurd (cc)
    by_event (Step u) same x =
        let h = reported (reports_end e.reply) u t x in
        let now : LegalReply s past (Step u) e.reply = subst (λ v. LegalReply s past v e.reply) same legal.1 in
        let own : concerns e.event u ≡ true = ap (λ v. concerns v u) same ∙ eq-eqb u u refl in
        subst (λ v. live (e ∷ past) v ≡ false) (some_is u t h.1) (over past e u (StepReply s past u (next_of s past u) e.reply)
        (λ y. ends_named e.event e.reply u own (step_ends s past u (next_of s past u) e.reply y h.0)) now)
    by_event (Access u d) same x =
        let h = reported (reports_end e.reply) u t x in
        let now : LegalReply s past (Access u d) e.reply = subst (λ v. LegalReply s past v e.reply) same legal.1 in
        let own : concerns e.event u ≡ true = ap (λ v. concerns v u) same ∙ eq-eqb u u refl in
        subst (λ v. live (e ∷ past) v ≡ false) (some_is u t h.1) (over past e u (RequestReply s past u d (next_of s past u) e.reply)
        (λ y. ends_named e.event e.reply u own (request_ends s past u d (next_of s past u) e.reply y h.0)) now)
    by_event (Commit u) same x =
        let h = reported (reports_end e.reply) u t x in
        let now : LegalReply s past (Commit u) e.reply = subst (λ v. LegalReply s past v e.reply) same legal.1 in
        let own : concerns e.event u ≡ true = ap (λ v. concerns v u) same ∙ eq-eqb u u refl in
        subst (λ v. live (e ∷ past) v ≡ false) (some_is u t h.1) (over past e u (CommitReply s past u (next_of s past u) e.reply)
        (λ y. ends_named e.event e.reply u own (commit_ends s past u (next_of s past u) e.reply y h.0)) now)
    by_event (Quit u) same x =
        let now : LegalReply s past (Quit u) e.reply = subst (λ v. LegalReply s past v e.reply) same legal.1 in
        let own : concerns e.event u ≡ true = ap (λ v. concerns v u) same ∙ eq-eqb u u refl in
        subst (λ v. live (e ∷ past) v ≡ false) (some_is u t x) (over past e u (AbortReply past u cause.Quit e.reply)
        (λ y. ends_named e.event e.reply u own (ap is_ending y.is)) now)

-- what is started

started_live : (s : Configuration) (past : List Entry) (e : Entry) → Legal s past → e.reply ≡ reply.Started (start_count past)
    → live (e ∷ past) (start_count past) ≡ true
started_live s past e h is =
    let more : start_count (e ∷ past) ≡ start_count past + 1 = ap (λ r. cond (is_start r) (start_count past + 1) (start_count past)) is in
    let none : fate_of past (start_count past) ≡ None = unstarted-no_fate s past h (start_count past) (le_refl (start_count past)) in
    live_from (e ∷ past) (start_count past) (omega arith) (option_or-at_none _ _
    (ap (λ r. ending_in e.event r (start_count past)) is) ∙ none)

number_is : (r : Reply) (n t : ℕ) → r ≡ reply.Started n → started_number r ≡ Some t → n ≡ t
number_is r n t is e = some_is n t (sym (ap started_number is) ∙ e)

starts_one : (r : Reply) (t : ℕ) → started_number r ≡ Some t → is_start r ≡ true
starts_one (reply.Started u) t e = refl
starts_one _ t e = absurd (cc)

number_in : (event : Event) (r : Reply) (t : ℕ) → started_in event r ≡ Some t → started_number r ≡ Some t
number_in (Start p args) r t e = e
number_in (Step u) r t e = absurd (cc)
number_in (Access u d) r t e = absurd (cc)
number_in (Commit u) r t e = absurd (cc)
number_in (Quit u) r t e = absurd (cc)

pub started_are_live : StartedAreLive
started_are_live s past e legal t is = by_effect (effect s past e.event e.reply legal.1)
  where
    number : started_number e.reply ≡ Some t
    number = number_in e.event e.reply t is

    one : is_start e.reply ≡ true
    one = starts_one e.reply t number

    by_effect : Effect s past e.event e.reply → live (e ∷ past) t ≡ true
    by_effect (idle i) = absurd (cc (sym i.no_start ∙ one))
    by_effect (begins b) = subst (λ u. live (e ∷ past) u ≡ true) (number_is e.reply (start_count past) t b.reply_is number)
        (started_live s past e legal.0 b.reply_is)
    by_effect (accesses x) = absurd (cc (sym x.no_start ∙ one))
    by_effect (commits c) = absurd (cc (sym (ap is_start c.reply_is) ∙ one))
    by_effect (undoes x) = absurd (cc (sym (ap is_start x.reply_is) ∙ one))
    by_effect (refuses x) = absurd (cc (sym (ap is_start x.reply_is) ∙ one))

-- what ends

not_ending : (r : Reply) → EndsNone r → is_ending r ≡ false
not_ending (reply.Committed answers) h = absurd h
not_ending (reply.Aborted why fell) h = absurd h
not_ending (reply.Refused code fell) h = absurd h
not_ending _ h = refl

ends_nobody : (r : Reply) → is_ending r ≡ false → EndsNone r
ends_nobody (reply.Committed answers) h = absurd (cc)
ends_nobody (reply.Aborted why fell) h = absurd (cc)
ends_nobody (reply.Refused code fell) h = absurd (cc)
ends_nobody _ h = tt

pub others_end_none : OthersEndNone
others_end_none past e is t alive = live_from (e ∷ past) t (started-stays e past t (live-started past t alive))
    (option_or-at_none _ _ (ends_none-no_end e.event e.reply (ends_nobody e.reply is) t) ∙ live-no_fate past t alive)

named_cause : (s : Configuration) (past : List Entry) (event : Event) (why : Cause) → CauseHolds s past event why → named_by event ≡ Some
    (subject event)
named_cause s past (Start p args) why h = absurd h
named_cause s past (Step t) why h = refl
named_cause s past (Access t d) why h = refl
named_cause s past (Commit t) why h = refl
named_cause s past (Quit t) why h = refl

pub endings_end_one : EndingsEndOne
endings_end_one s past e legal is = by_effect (effect s past e.event e.reply legal.1)
  where
    named_ends : (t : ℕ) → named_by e.event ≡ Some t → live (e ∷ past) t ≡ false
    named_ends t own = let f = ends_named e.event e.reply t (concerns_named e.event t own) is in ends_now past e t f.0 f.1
      where
        concerns_named : (event : Event) (u : ℕ) → named_by event ≡ Some u → concerns event u ≡ true
        concerns_named (Start p args) u x = absurd (cc)
        concerns_named (Step v) u x = named_own v u x
        concerns_named (Access v d) u x = named_own v u x
        concerns_named (Commit v) u x = named_own v u x
        concerns_named (Quit v) u x = named_own v u x

    by_effect : Effect s past e.event e.reply → (t : ℕ) × (named_by e.event ≡ Some t) × (live past t ≡ true) × (live (e ∷ past) t ≡ false)
    by_effect (idle i) = absurd (cc (sym (not_ending e.reply i.ends_none) ∙ is))
    by_effect (begins b) = absurd (cc (sym (ap is_ending b.reply_is) ∙ is))
    by_effect (accesses x) = absurd (cc (sym (not_ending e.reply x.ends_none) ∙ is))
    by_effect (commits c) = let own : named_by e.event ≡ Some c.t = ap named_by c.event_is in (c.t, own, c.is_live, named_ends c.t own)
    by_effect (undoes x) =
        let own : named_by e.event ≡ Some x.undoing.t = named_cause s past e.event x.undoing.why x.has_cause
        ∙ ap (λ u. Some u) x.subject_is in
        (x.undoing.t, own, x.undoing.is_live, named_ends x.undoing.t own)
    by_effect (refuses x) = let own : named_by e.event ≡ Some x.undoing.t = ap named_by x.event_is in
        (x.undoing.t, own, x.undoing.is_live, named_ends x.undoing.t own)
