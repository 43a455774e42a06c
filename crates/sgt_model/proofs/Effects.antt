-- What an entry of a legal history can be. The later proofs split on this, and never on an event with its reply.
-- the reply ends no transaction
use Rattle.std.proofs.Common.{◌≡◌, ℕ, ℤ, Bool, true, false, cond, List, [], ◌∷◌, length, Option, Some, None, is_none, nat_eq, nat_lt, refl, sym, ap, ap₂, subst, inl, inr, ◌⊎◌}
use Rattle.std.proofs.lemmas.Bool.{and_from}
use Rattle.std.specs.List.{list_any}
use Rattle.sgt_model.specs.declared.event.Event.{Event}
use Rattle.sgt_model.specs.declared.event.Event.TheVariants.{Start, Step, Commit, Quit}
use Rattle.sgt_model.specs.declared.event.Event.TheVariants as event
use Rattle.sgt_model.specs.declared.event.Request.{Request}
use Rattle.sgt_model.specs.declared.event.Request.TheVariants.{Read, Write}
use Rattle.sgt_model.specs.declared.reply.Reply.{Reply}
use Rattle.sgt_model.specs.declared.reply.Reply.TheVariants as reply
use Rattle.sgt_model.specs.declared.reply.Cause.{Cause}
use Rattle.sgt_model.specs.declared.reply.Cause.TheVariants as cause
use Rattle.sgt_model.specs.declared.reply.Fate.{Fate}
use Rattle.sgt_model.specs.declared.reply.Fate.TheVariants as fate
use Rattle.sgt_model.specs.declared.entry.Entry.{Entry}
use Rattle.sgt_model.specs.declared.kind.Kind.{Kind}
use Rattle.sgt_model.specs.declared.kind.Kind.TheVariants.{Look, Store}
use Rattle.sgt_model.specs.declared.limits.Asks.{Asks}
use Rattle.sgt_model.specs.declared.limits.Asks.TheVariants.{AtStep, AtCommit}
use Rattle.sgt_model.specs.Contents.{Key}
use Rattle.sgt_model.specs.Traces.{Next, Looks, Puts, Ends, Raises}
use Rattle.sgt_model.specs.Accesses.{Access, access_at, access_in}
use Rattle.sgt_model.specs.Fates.{is_start, start_count, concerns, subject, ending_in, fate_of, live, live_ones}
use Rattle.sgt_model.specs.Values.{visible}
use Rattle.sgt_model.specs.Falls.{Falls}
use Rattle.sgt_model.specs.Closes.{Closes}
use Rattle.sgt_model.specs.Configurations.{Configuration, takes}
use Rattle.sgt_model.specs.Progress.{call_in, next_of, requested, is_fit}
use Rattle.sgt_model.specs.StartReply.{args_fit, taken_reply}
use Rattle.sgt_model.specs.Legality.{AbortReply, CycleAbortReply, RaisedStep, RaisedCommit, Makes, StepReply, OfFit, RequestReply, HasNoLivePredecessor, CommitReply, OfStarted, OfLive, LegalReply}
use Rattle.sgt_model.specs.Replay.{reported_call_in, reported_in}
use Rattle.sgt_model.specs.Aborts.{Wants, ClosesCycle, CauseHolds, ReplyIsJustified}
use Rattle.sgt_model.specs.Laws.{CommitAgrees}
use Rattle.sgt_model.proofs.NoOrder.{refused_has_no_order}

abbrev pub EndsNone : Reply → Type 0
EndsNone (reply.Committed answers) = ⊥
EndsNone (reply.Aborted why fell) = ⊥
EndsNone (reply.Refused code fell) = ⊥
EndsNone _ = Unit {0}

pub ends_none-no_end : (event : Event) (r : Reply) → EndsNone r → (u : ℕ) → ending_in event r u ≡ None
ends_none-no_end event (reply.Committed answers) h u = absurd h
ends_none-no_end event (reply.Aborted why fell) h u = absurd h
ends_none-no_end event (reply.Refused code fell) h u = absurd h
ends_none-no_end event _ h u = refl

pub ends_none-no_call : (past : List Entry) (event : Event) (r : Reply) → EndsNone r → reported_call_in past event r ≡ []
ends_none-no_call past event (reply.Committed answers) h = absurd h
ends_none-no_call past event (reply.Refused code fell) h = absurd h
ends_none-no_call past event _ h = refl

pub ends_none-reports_none : (r : Reply) → EndsNone r → reported_in r ≡ []
ends_none-reports_none (reply.Committed answers) h = absurd h
ends_none-reports_none (reply.Refused code fell) h = absurd h
ends_none-reports_none _ h = refl

pub ends_none-agrees : (s : Configuration) (past : List Entry) (event : Event) (r : Reply) → EndsNone r → CommitAgrees s past event r
ends_none-agrees s past event (reply.Committed answers) h = absurd h
ends_none-agrees s past event (reply.Refused code fell) h = absurd h
ends_none-agrees s past event _ h = tt

pub ends_none-cause : (s : Configuration) (past : List Entry) (event : Event) (r : Reply) → EndsNone r → ReplyIsJustified s past event r
ends_none-cause s past event (reply.Aborted why fell) h = absurd h
ends_none-cause s past event (reply.Refused code fell) h = absurd h
ends_none-cause s past event _ h = tt

-- a reply that starts none leaves the calls
pub no_start-no_call : (event : Event) (r : Reply) → is_start r ≡ false → (t : ℕ) → call_in event r t ≡ None
no_start-no_call event (reply.Started u) h t = absurd (cc)
no_start-no_call event _ h t = refl

-- nothing was started, done or ended
pub record Idle (event : Event) (r : Reply) : Type 0 where
  pub no_start : is_start r ≡ false
  pub no_access : access_in event r ≡ None
  pub ends_none : EndsNone r

-- a transaction was started, within the limits
pub record Begins (s : Configuration) (past : List Entry) (event : Event) (r : Reply) : Type 0 where
  pub procedure : ℕ
  pub args : List ℤ
  pub count : ℕ
  pub event_is : event ≡ Start procedure args
  pub reply_is : r ≡ reply.Started (start_count past)
  pub known : takes s.rules procedure ≡ Some count
  pub fit : args_fit count args ≡ true
  pub not_spent : nat_eq (start_count past) s.rules.limits.begins ≡ false
  pub not_full : nat_eq (length (live_ones past)) s.rules.limits.live ≡ false

-- this access is what comes next
abbrev pub Fits : Next → Access → Type 0
Fits (Looks k) a = (a.key ≡ k) × (a.kind ≡ Look)
Fits (Puts k v) a = (a.key ≡ k) × (a.kind ≡ Store) × (a.value ≡ v)
Fits (Ends answers) a = ⊥
Fits (Raises code) a = ⊥

-- this access is what comes next; or its caller requests it, and the end comes next
abbrev pub Made : Next → Event → Access → Type 0
Made n (Step t) a = Fits n a
Made n (event.Access t d) a = (answers : List ℤ) × (n ≡ Ends answers) × (is_fit d ≡ true) × Fits (requested d) a
Made n _ a = ⊥

-- an event of t that can make an access
pub record About (event : Event) (t : ℕ) : Type 0 where
  pub concerns : (u : ℕ) → concerns event u ≡ nat_eq t u
  pub subject : subject event ≡ t
  pub access : (k : Key) (kind : Kind) (v : Option ℤ) → access_at event k kind v ≡ Some (record { by = t; key = k; kind = kind; value = v })

pub about_step : (t : ℕ) → About (Step t) t
about_step t = record { concerns = λ u. refl; subject = refl; access = λ k kind v. refl }

pub about_request : (t : ℕ) (d : Request) → About (event.Access t d) t
about_request t d = record { concerns = λ u. refl; subject = refl; access = λ k kind v. refl }

-- a live transaction made its next access, which closes no cycle; a read returned what was visible
pub record Accesses (s : Configuration) (past : List Entry) (event : Event) (r : Reply) : Type 0 where
  pub access : Access
  pub access_is : access_in event r ≡ Some access
  pub no_start : is_start r ≡ false
  pub ends_none : EndsNone r
  pub is_live : live past access.by ≡ true
  pub free : (rest : List ℕ) → Closes past access.by access.key access.kind rest → ⊥
  pub made : Made (next_of s past access.by) event access
  pub found : access.kind ≡ Look → access.value ≡ visible s.opening past access.key

-- a live transaction committed
pub record Commits (s : Configuration) (past : List Entry) (event : Event) (r : Reply) : Type 0 where
  pub t : ℕ
  pub answers : List ℤ
  pub event_is : event ≡ Commit t
  pub reply_is : r ≡ reply.Committed answers
  pub is_live : live past t ≡ true
  pub none_live : HasNoLivePredecessor past t
  pub next : next_of s past t ≡ Ends answers

-- a live transaction ended by an abort, with those aborted in cascade
pub record Undoing (past : List Entry) (event : Event) (r : Reply) : Type 0 where
  pub t : ℕ
  pub why : Cause
  pub fell : List ℕ
  pub is_live : live past t ≡ true
  pub falls : Falls past t fell
  pub ends : (u : ℕ) → ending_in event r u ≡ cond (nat_eq t u) (Some (fate.Aborted why))
      (cond (list_any (λ v. nat_eq v u) fell) (Some (fate.Fell t)) None)

-- so it did by an Aborted reply, which names the cause
pub record Undoes (s : Configuration) (past : List Entry) (event : Event) (r : Reply) : Type 0 where
  pub undoing : Undoing past event r
  pub subject_is : subject event ≡ undoing.t
  pub reply_is : r ≡ reply.Aborted undoing.why undoing.fell
  pub has_cause : CauseHolds s past event undoing.why

-- or by a Refused reply at its commit, where it waits for none and raises the code
pub record Refusal (s : Configuration) (past : List Entry) (event : Event) (r : Reply) : Type 0 where
  pub undoing : Undoing past event r
  pub code : ℕ
  pub event_is : event ≡ Commit undoing.t
  pub reply_is : r ≡ reply.Refused code undoing.fell
  pub none_live : HasNoLivePredecessor past undoing.t
  pub next : next_of s past undoing.t ≡ Raises code

pub data Effect (s : Configuration) (past : List Entry) (event : Event) (r : Reply) : Type 0 where
  idle : Idle event r → Effect s past event r
  begins : Begins s past event r → Effect s past event r
  accesses : Accesses s past event r → Effect s past event r
  commits : Commits s past event r → Effect s past event r
  undoes : Undoes s past event r → Effect s past event r
  refuses : Refusal s past event r → Effect s past event r

idle_at : {s : Configuration} {past : List Entry} {event : Event} {r r' : Reply} → r ≡ r' → Idle event r' → Effect s past event r
idle_at {s} {past} {event} e i = subst (λ x. Effect s past event x) (sym e) (idle i)

-- a start

begin_at : (s : Configuration) (past : List Entry) (p : ℕ) (args : List ℤ) (count : ℕ) → takes s.rules p ≡ Some count
    → (fit spent full : Bool) → args_fit count args ≡ fit → nat_eq (start_count past) s.rules.limits.begins ≡ spent
    → nat_eq (length (live_ones past)) s.rules.limits.live ≡ full → Effect s past (Start p args)
    (cond fit (cond spent reply.Spent (cond full reply.Full (reply.Started (start_count past)))) reply.BadArgs)
begin_at s past p args count known false spent full f n l = idle (record { no_start = refl; no_access = refl; ends_none = tt })
begin_at s past p args count known true true full f n l = idle (record { no_start = refl; no_access = refl; ends_none = tt })
begin_at s past p args count known true false true f n l = idle (record { no_start = refl; no_access = refl; ends_none = tt })
begin_at s past p args count known true false false f n l =
    begins (record {
      procedure = p;
      args = args;
      count = count;
      event_is = refl;
      reply_is = refl;
      known = known;
      fit = f;
      not_spent = n;
      not_full = l;
    })

start_at : (s : Configuration) (past : List Entry) (p : ℕ) (args : List ℤ) (o : Option ℕ) → takes s.rules p ≡ o
    → Effect s past (Start p args) (taken_reply s.rules.limits (start_count past) (length (live_ones past)) o args)
start_at s past p args None known = idle (record { no_start = refl; no_access = refl; ends_none = tt })
start_at s past p args (Some count) known = begin_at s past p args count known (args_fit count args)
    (nat_eq (start_count past) s.rules.limits.begins) (nat_eq (length (live_ones past)) s.rules.limits.live) refl refl refl

-- what the events of a transaction share

pub none_from : {A : Type 0} (o : Option A) → is_none o ≡ true → o ≡ None
none_from None e = refl
none_from (Some x) e = absurd (cc)

of_live-at : (s : Configuration) (past : List Entry) (event : Event) (t : ℕ) (r : Reply) (P : Type 0) (b : Bool) (o : Option Fate)
    → nat_lt t (start_count past) ≡ b → fate_of past t ≡ o → (live past t ≡ true → P → Effect s past event r) → OfStarted b o r P
    → Effect s past event r
of_live-at s past event t r P true None started ended rest h = rest (and_from _ _ started (ap is_none ended)) h
of_live-at s past event t r P true (Some f) started ended rest h = idle_at h (record { no_start = refl; no_access = refl; ends_none = tt })
of_live-at s past event t r P false o started ended rest h = idle_at h (record { no_start = refl; no_access = refl; ends_none = tt })

of_live : (s : Configuration) (past : List Entry) (event : Event) (t : ℕ) (r : Reply) (P : Type 0)
    → (live past t ≡ true → P → Effect s past event r) → OfLive past t r P → Effect s past event r
of_live s past event t r P rest h = of_live-at s past event t r P (nat_lt t (start_count past)) (fate_of past t) refl refl rest h

-- an abort

abort_at : (s : Configuration) (past : List Entry) (event : Event) (t : ℕ) (why : Cause) (r : Reply) → About event t → live past t ≡ true
    → CauseHolds s past event why → AbortReply past t why r → Effect s past event r
abort_at s past event t why r about alive due a = subst (λ x. Effect s past event x) (sym a.is)
    (undoes (record {
      undoing = record {
        t = t;
        why = why;
        fell = a.fell;
        is_live = alive;
        falls = a.falls;
        ends = λ u. ap₂ (λ b v. cond b (Some (fate.Aborted why)) (cond (list_any (λ w. nat_eq w u) a.fell) (Some (fate.Fell v)) None))
            (about.concerns u) about.subject;
      };
      subject_is = about.subject;
      reply_is = refl;
      has_cause = due;
    }))

quit_at : (s : Configuration) (past : List Entry) (t : ℕ) (r : Reply) → live past t ≡ true → AbortReply past t cause.Quit r
    → Effect s past (Quit t) r
quit_at s past t r alive a = subst (λ x. Effect s past (Quit t) x) (sym a.is)
    (undoes (record {
      undoing = record {
        t = t;
        why = cause.Quit;
        fell = a.fell;
        is_live = alive;
        falls = a.falls;
        ends = λ u. refl;
      };
      subject_is = refl;
      reply_is = refl;
      has_cause = tt;
    }))

refuse_at : (s : Configuration) (past : List Entry) (event : Event) (t : ℕ) (n : Next) (k : Key) (kind : Kind) (r : Reply) → About event t
    → ((cycle : List ℕ) → ClosesCycle past t n cycle → CauseHolds s past event (cause.Cycle cycle)) → live past t ≡ true
    → Wants n k kind → CycleAbortReply past t k kind r → Effect s past event r
refuse_at s past event t n k kind r about due alive wants h = abort_at s past event t (cause.Cycle (t ∷ h.rest)) r about alive
    (due (t ∷ h.rest) (record {
      rest = h.rest;
      is = refl;
      key = k;
      kind = kind;
      wants = wants;
      closes = h.closes;
      no_order = refused_has_no_order past t k kind h.rest h.closes;
    })) h.aborts

-- a code that is raised

raised_step : (s : Configuration) (past : List Entry) (t code : ℕ) (r : Reply) → next_of s past t ≡ Raises code → live past t ≡ true
    → (asks : Asks) → RaisedStep asks past t code r → Effect s past (Step t) r
raised_step s past t code r e alive AtStep h = abort_at s past (Step t) t (cause.Asked code) r (about_step t) alive e h
raised_step s past t code r e alive AtCommit h = idle_at h (record { no_start = refl; no_access = refl; ends_none = tt })

raised_commit : (s : Configuration) (past : List Entry) (t code : ℕ) (r : Reply) → next_of s past t ≡ Raises code → live past t ≡ true
    → (asks : Asks) → RaisedCommit asks past t code r → Effect s past (Commit t) r
raised_commit s past t code r e alive AtStep h = idle_at h (record { no_start = refl; no_access = refl; ends_none = tt })
raised_commit s past t code r e alive AtCommit (inl h) = idle_at h.is (record { no_start = refl; no_access = refl; ends_none = tt })
raised_commit s past t code r e alive AtCommit (inr h) = subst (λ x. Effect s past (Commit t) x) (sym h.is)
    (refuses (record {
      undoing = record {
        t = t;
        why = cause.Asked code;
        fell = h.fell;
        is_live = alive;
        falls = h.falls;
        ends = λ u. refl;
      };
      code = code;
      event_is = refl;
      reply_is = refl;
      none_live = h.none_live;
      next = e;
    }))

-- a step

make_at : (s : Configuration) (past : List Entry) (event : Event) (access : Access) {r given : Reply} → r ≡ given
    → access_in event given ≡ Some access → is_start given ≡ false → EndsNone given → live past access.by ≡ true
    → ((rest : List ℕ) → Closes past access.by access.key access.kind rest → ⊥) → Made (next_of s past access.by) event access
    → (access.kind ≡ Look → access.value ≡ visible s.opening past access.key) → Effect s past event r
make_at s past event access is access_is no_start ends_none alive free made found =
    subst (λ x. Effect s past event x) (sym is) (accesses (record {
      access = access;
      access_is = access_is;
      no_start = no_start;
      ends_none = ends_none;
      is_live = alive;
      free = free;
      made = made;
      found = found;
    }))

abbrev looking : Configuration → List Entry → ℕ → Key → Access
looking s past t k = record { by = t; key = k; kind = Look; value = visible s.opening past k }

abbrev storing : ℕ → Key → Option ℤ → Access
storing t k v = record { by = t; key = k; kind = Store; value = v }

-- a read and a write, of either kind of event

look_at : (s : Configuration) (past : List Entry) (event : Event) (t : ℕ) (r : Reply) (n : Next) (k : Key) → About event t
    → ((cycle : List ℕ) → ClosesCycle past t n cycle → CauseHolds s past event (cause.Cycle cycle)) → Wants n k Look
    → Made (next_of s past t) event (looking s past t k) → live past t ≡ true → CycleAbortReply past t k Look r ⊎ Makes past t k Look
    (reply.Looked k (visible s.opening past k)) r → Effect s past event r
look_at s past event t r n k about due wants made alive (inl h) = refuse_at s past event t n k Look r about due alive wants h
look_at s past event t r n k about due wants made alive (inr h) =
    make_at s past event (looking s past t k) h.is (about.access k Look (visible s.opening past k)) refl tt alive h.free made (λ look. refl)

store_at : (s : Configuration) (past : List Entry) (event : Event) (t : ℕ) (r : Reply) (n : Next) (k : Key) (v : Option ℤ) → About event t
    → ((cycle : List ℕ) → ClosesCycle past t n cycle → CauseHolds s past event (cause.Cycle cycle)) → Wants n k Store
    → Made (next_of s past t) event (storing t k v) → live past t ≡ true → CycleAbortReply past t k Store r ⊎ Makes past t k Store
    (reply.Wrote k v) r → Effect s past event r
store_at s past event t r n k v about due wants made alive (inl h) = refuse_at s past event t n k Store r about due alive wants h
store_at s past event t r n k v about due wants made alive (inr h) =
    make_at s past event (storing t k v) h.is (about.access k Store v) refl tt alive h.free made
    (λ (look : Store ≡ Look). absurd (cc))

step_at : (s : Configuration) (past : List Entry) (t : ℕ) (r : Reply) (n : Next) → next_of s past t ≡ n → live past t ≡ true
    → StepReply s past t n r → Effect s past (Step t) r
step_at s past t r (Looks k) e alive h = look_at s past (Step t) t r (next_of s past t) k (about_step t) (λ cycle c. c)
    (subst (λ n. Wants n k Look) (sym e) (refl, refl)) (subst (λ n. Fits n (looking s past t k)) (sym e) (refl, refl)) alive h
step_at s past t r (Puts k v) e alive h = store_at s past (Step t) t r (next_of s past t) k v (about_step t) (λ cycle c. c)
    (subst (λ n. Wants n k Store) (sym e) (refl, refl)) (subst (λ n. Fits n (storing t k v)) (sym e) (refl, refl, refl)) alive h
step_at s past t r (Ends answers) e alive h = idle_at h (record { no_start = refl; no_access = refl; ends_none = tt })
step_at s past t r (Raises code) e alive h = raised_step s past t code r e alive s.rules.limits.asks h

-- an access that the caller requests

requested_at : (s : Configuration) (past : List Entry) (t : ℕ) (r : Reply) (d : Request) (answers : List ℤ) → next_of s past t
    ≡ Ends answers
    → live past t ≡ true → is_fit d ≡ true → StepReply s past t (requested d) r → Effect s past (event.Access t d) r
requested_at s past t r (Read k) answers e alive fit h = look_at s past (event.Access t (Read k)) t r (Looks k) k (about_request t (Read k))
    (λ cycle c. c) (refl, refl) (answers, e, fit, (refl, refl)) alive h
requested_at s past t r (Write k v) answers e alive fit h = store_at s past (event.Access t (Write k v)) t r (Puts k v) k v
    (about_request t (Write k v)) (λ cycle c. c) (refl, refl) (answers, e, fit, (refl, refl, refl)) alive h

fit_at : (s : Configuration) (past : List Entry) (t : ℕ) (r : Reply) (d : Request) (answers : List ℤ) → next_of s past t ≡ Ends answers
    → live past t ≡ true → (fit : Bool) → is_fit d ≡ fit → OfFit fit r (StepReply s past t (requested d) r)
    → Effect s past (event.Access t d) r
fit_at s past t r d answers e alive true fit h = requested_at s past t r d answers e alive fit h
fit_at s past t r d answers e alive false fit h = idle_at h (record { no_start = refl; no_access = refl; ends_none = tt })

request_at : (s : Configuration) (past : List Entry) (t : ℕ) (r : Reply) (d : Request) (n : Next) → next_of s past t ≡ n
    → live past t ≡ true
    → RequestReply s past t d n r → Effect s past (event.Access t d) r
request_at s past t r d (Ends answers) e alive h = fit_at s past t r d answers e alive (is_fit d) refl h
request_at s past t r d (Looks k) e alive h = idle_at h (record { no_start = refl; no_access = refl; ends_none = tt })
request_at s past t r d (Puts k v) e alive h = idle_at h (record { no_start = refl; no_access = refl; ends_none = tt })
request_at s past t r d (Raises code) e alive h = idle_at h (record { no_start = refl; no_access = refl; ends_none = tt })

-- a commit

commit_at : (s : Configuration) (past : List Entry) (t : ℕ) (r : Reply) (n : Next) → next_of s past t ≡ n → live past t ≡ true
    → CommitReply s past t n r → Effect s past (Commit t) r
commit_at s past t r (Ends answers) e alive (inl h) = idle_at h.is (record { no_start = refl; no_access = refl; ends_none = tt })
commit_at s past t r (Ends answers) e alive (inr h) =
    commits (record { t = t; answers = answers; event_is = refl; reply_is = h.is; is_live = alive; none_live = h.none_live; next = e })
commit_at s past t r (Looks k) e alive h = idle_at h (record { no_start = refl; no_access = refl; ends_none = tt })
commit_at s past t r (Puts k v) e alive h = idle_at h (record { no_start = refl; no_access = refl; ends_none = tt })
commit_at s past t r (Raises code) e alive h = raised_commit s past t code r e alive s.rules.limits.asks h

-- each legal reply has one of the effects
pub effect : (s : Configuration) (past : List Entry) (event : Event) (r : Reply) → LegalReply s past event r → Effect s past event r
effect s past (Start p args) r h = subst (λ x. Effect s past (Start p args) x) (sym h) (start_at s past p args (takes s.rules p) refl)
effect s past (Step t) r h = of_live s past (Step t) t r (StepReply s past t (next_of s past t) r)
    (step_at s past t r (next_of s past t) refl) h
effect s past (event.Access t d) r h = of_live s past (event.Access t d) t r (RequestReply s past t d (next_of s past t) r)
    (request_at s past t r d (next_of s past t) refl) h
effect s past (Commit t) r h = of_live s past (Commit t) t r (CommitReply s past t (next_of s past t) r)
    (commit_at s past t r (next_of s past t) refl) h
effect s past (Quit t) r h = of_live s past (Quit t) t r (AbortReply past t cause.Quit r) (quit_at s past t r) h
