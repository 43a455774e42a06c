-- Callers run alone, one after another, do what they did in a legal history.
use Rattle.std.specs.Prelude.{◌≡◌, ◌≢◌, ℕ, zero, suc, ◌<◌, ◌≤◌, ℤ, Bool, true, false, ◌&&◌, cond, ◌⊎◌, nat_eq, List, [], ◌∷◌, ◌++◌, length, map, Option, Some, None}
use Rattle.std.proofs.Common.{refl, sym, ap, ap₂, ◌∙◌, subst, subst₂, inl, inr, ⊎_elim, arith, length-append}
use Rattle.std.proofs.lemmas.Bool.{cases_eq, cases_lt, eq-eqb, ne_eqb, cond-true, cond-false}
use Rattle.sgt_model.specs.declared.event.Event.{Event}
use Rattle.sgt_model.specs.declared.event.Event.TheVariants.{Start, Step, Commit, Quit}
use Rattle.sgt_model.specs.declared.event.Event.TheVariants as event
use Rattle.sgt_model.specs.declared.event.Request.{Request}
use Rattle.sgt_model.specs.declared.event.Request.TheVariants.{Read, Write}
use Rattle.sgt_model.specs.declared.reply.Reply.{Reply}
use Rattle.sgt_model.specs.declared.reply.Reply.TheVariants as reply
use Rattle.sgt_model.specs.declared.entry.Entry.{Entry}
use Rattle.sgt_model.specs.declared.kind.Kind.{Kind}
use Rattle.sgt_model.specs.declared.kind.Kind.TheVariants.{Look, Store}
use Rattle.sgt_model.specs.Contents.{Key, key_eq, Contents, set_in}
use Rattle.sgt_model.specs.Runs.{Run, looks, puts, ends, raises, CallerAccess, Done, Asked, Outcome, serial, with_accesses}
use Rattle.sgt_model.specs.Traces.{Puts, Ends, Raises}
use Rattle.sgt_model.specs.Accesses.{Access, is_store, access_in, access_of, act_in, acts}
use Rattle.sgt_model.specs.Fates.{subject, committed}
use Rattle.sgt_model.specs.Values.{newest_store, value_or, settled}
use Rattle.sgt_model.specs.Configurations.{Rules, Configuration}
use Rattle.sgt_model.specs.Progress.{Call, call_of, caller_access_in, caller_accesses, values_read, requested, run_of, outcome_in, next_of}
use Rattle.sgt_model.specs.Legality.{Legal}
use Rattle.sgt_model.specs.Replay.{GaveAnswers, RaisedCode, Folded, with_outcome, run_in_turn, reported_call_in, reported_in, reported_calls}
use Rattle.sgt_model.specs.Callers.{Caller, AsDecided, Decides, Alone, then_does, by_procedure, requests, by_caller, Turns, with_turn, after_procedure, with_run, with_entry, callers_in_turn, turn_in, turns_of, CallersAgree, CallersRunAlone, CallersExist, IsOfProcedure, AreOfProcedures, procedures_in_turn, ProceduresRunAlone}
use Rattle.sgt_model.proofs.Effects.{Fits, Made, Commits, Refusal, effect}
use Rattle.sgt_model.proofs.Facts.{access-live, live-not_committed, access-fits, committed-stays, Uncommitted, commits_or_not}
use Rattle.sgt_model.proofs.Acts.{requests_of, AsRequested, over, FindsIn, caller_access_of}
use Rattle.sgt_model.proofs.Traces.{left_by, left, next_of_run, left_next, finds_own}
use Rattle.sgt_model.proofs.Plays.{act_own, act_other, act_none, caller_access_if, caller_access_in-is, caller_access_if-none, caller_access_if-other, not_fit, only_own, own_end, plays}
use Rattle.sgt_model.proofs.Overs.{over-acts, finds_in}
use Rattle.sgt_model.proofs.Replays.{is_serializable, commit_entry, committed_own, settled_commit, settled_quiet, commit_agrees, refusal_agrees, refusal-no_commit}

-- ---- one transaction alone

abbrev so_far : List Access → Contents → Alone
so_far l m = record { acts = l; map = m }

-- these are t's
abbrev AllBy : ℕ → List Access → Type 0
AllBy t [] = Unit {0}
AllBy t (a ∷ before) = AllBy t before × (a.by ≡ t)

abbrev access : ℕ → Key → Kind → Option ℤ → Access
access t k kind v = record { by = t; key = k; kind = kind; value = v }

access_is : (a : Access) (t : ℕ) (k : Key) (kind : Kind) (v : Option ℤ) → a.by ≡ t → a.key ≡ k → a.kind ≡ kind → a.value ≡ v
    → access t k kind v ≡ a
access_is a t k kind v b key is value =
    ap₂ (λ x y. access x y kind v) (sym b) (sym key) ∙ ap₂ (λ x y. access a.by a.key x y) (sym is) (sym value)

-- a map that is the contents over which these accesses are made
abbrev Holds : Contents → List Access → Contents → Type 0
Holds m l now = (k : Key) → now k ≡ over m l k

after_look : (m : Contents) (a : Access) (l : List Access) (now : Contents) → a.kind ≡ Look → Holds m l now → Holds m (a ∷ l) now
after_look m a l now is h j = h j ∙ ap (λ kind. cond (is_store kind && key_eq a.key j) a.value (over m l j)) (sym is)

after_store : (m : Contents) (a : Access) (l : List Access) (now : Contents) (k : Key) (w : Option ℤ) → Fits (Puts k w) a → Holds m l now
    → Holds m (a ∷ l) (set_in now k w)
after_store m a l now k w fits h j =
    ap₂ (λ q x. cond (key_eq q j) w x) (sym fits.0) (h j)
    ∙ ap₂ (λ kind x. cond (is_store kind && key_eq a.key j) x (over m l j)) (sym fits.1) (sym fits.2)

-- an access that was requested is made alone
does : (t : ℕ) (d : Request) (m : Contents) (a : Access) (l : List Access) (now : Contents) → Fits (requested d) a → a.by ≡ t
    → (a.kind ≡ Look → a.value ≡ over m l a.key) → Holds m l now
    → (next : Contents) × (then_does t (Some d) (so_far l now) ≡ so_far (a ∷ l) next) × Holds m (a ∷ l) next
does t (Read k) m a l now fits own found h =
    let v : a.value ≡ now k = found fits.1 ∙ (sym (h a.key) ∙ ap now fits.0) in
    (now, ap (λ x. so_far (x ∷ l) now) (access_is a t k Look (now k) own fits.0 fits.1 v), after_look m a l now fits.1 h)
does t (Write k w) m a l now fits own found h = (
  set_in now k w,
  ap (λ x. so_far (x ∷ l) (set_in now k w)) (access_is a t k Store w own fits.0 fits.1 fits.2),
  after_store m a l now k w fits h,
)

-- a procedure's own access is made alone
steps : (t : ℕ) (r : Run) (m : Contents) (a : Access) (l : List Access) (now : Contents) → Fits (next_of_run r) a → a.by ≡ t
    → (a.kind ≡ Look → a.value ≡ over m l a.key) → Holds m l now
    → (next : Contents) × (by_procedure t r (so_far l now) ≡ by_procedure t (left_by r a) (so_far (a ∷ l) next))
    × (serial r now ≡ serial (left_by r a) next) × Holds m (a ∷ l) next
steps t (looks k go) m a l now fits own found h =
    let v : a.value ≡ now k = found fits.1 ∙ (sym (h a.key) ∙ ap now fits.0) in (
      now,
      ap₂ (λ w x. by_procedure t (go w) (so_far (x ∷ l) now)) (sym v) (access_is a t k Look (now k) own fits.0 fits.1 v),
      ap (λ w. serial (go w) now) (sym v),
      after_look m a l now fits.1 h,
    )
steps t (puts k w rest) m a l now fits own found h = (
  set_in now k w,
  ap (λ x. by_procedure t rest (so_far (x ∷ l) (set_in now k w))) (access_is a t k Store w own fits.0 fits.1 fits.2),
  refl,
  after_store m a l now k w fits h,
)
steps t (ends answers) m a l now fits own found h = absurd fits
steps t (raises code) m a l now fits own found h = absurd fits

played_alone : (t : ℕ) (r : Run) (m : Contents) (l : List Access) → AsRequested (requests_of r) l → FindsIn m l → AllBy t l
    → (now : Contents) × (by_procedure t r (so_far [] m) ≡ by_procedure t (left r l) (so_far l now)) × (serial r m ≡ serial (left r l) now)
    × Holds m l now
played_alone t r m [] requested found own = (m, refl, refl, λ k. refl)
played_alone t r m (a ∷ l) requested found own =
    let ih = played_alone t r m l requested.0 found.0 own.0 in
    let fits : Fits (next_of_run (left r l)) a = subst (λ n. Fits n a) (left_next r l requested.0) requested.1 in
    let step = steps t (left r l) m a l ih.0 fits own.1 found.1 ih.3 in
    (step.0, ih.1 ∙ step.1, ih.2 ∙ step.2, step.3)

-- more accesses are the caller's, each decided after those before it
abbrev Decided : Caller → List Access → List Access → Type 0
Decided c [] own = Unit {0}
Decided c (a ∷ more) own = Decided c more own × ((d : Request) × (c (more ++ own) ≡ Some d) × Fits (requested d) a)

decided_alone : (t : ℕ) (c : Caller) (m : Contents) (own more : List Access) (now : Contents) → Decided c more own
    → FindsIn m (more ++ own) → AllBy t (more ++ own) → Holds m own now
    → (last : Contents) × (by_caller t c (length more) (so_far own now) ≡ so_far (more ++ own) last) × Holds m (more ++ own) last
decided_alone t c m own [] now decided found by h = (now, refl, h)
decided_alone t c m own (a ∷ more) now decided found by h =
    let ih = decided_alone t c m own more now decided.0 found.0 by.0 h in
    let one = does t decided.1.0 m a (more ++ own) ih.0 decided.1.2 by.1 found.1 ih.2 in
    (one.0, ap (requests t c) ih.1 ∙ (ap (λ q. then_does t q (so_far (more ++ own) ih.0)) decided.1.1 ∙ one.1), one.2)

-- a caller that requests no more stays there
stays : (t : ℕ) (c : Caller) (a : Alone) (l : List Access) (m : Contents) (made n : ℕ) → by_caller t c made a ≡ so_far l m → c l ≡ None
    → made ≤ n → by_caller t c n a ≡ so_far l m
stays t c a l m made zero e stop most = let none : made ≡ 0 = omega arith in subst (λ j. by_caller t c j a ≡ so_far l m) none e
stays t c a l m made (suc n) e stop most = elim (cases_lt n made) [
  | inl all ↦ let z : made ≡ suc n = omega arith in subst (λ j. by_caller t c j a ≡ so_far l m) z e
  | inr fewer ↦ ap (requests t c) (stays t c a l m made n e stop fewer) ∙ ap (λ q. then_does t q (so_far l m)) stop
]

-- ---- in a history

-- all of a transaction's accesses are its own
all_by : (past : List Entry) (t : ℕ) → AllBy t (acts past t)
all_by [] t = tt
all_by (e ∷ past) t = by_access (all_by past t) (access_of e) refl
  where
    by_access : AllBy t (acts past t) → (x : Option Access) → access_of e ≡ x → AllBy t (acts (e ∷ past) t)
    by_access before None is = subst (AllBy t) (sym (act_none (access_of e) t (acts past t) is)) before
    by_access before (Some a) is = ⊎_elim (λ z. subst (AllBy t) (sym (act_own (access_of e) a t (acts past t) is z)) (before, z))
        (λ z. subst (AllBy t) (sym (act_other (access_of e) a t (acts past t) is z)) before) (cases_eq a.by t)

-- there are no more of them than entries
acts_few : (past : List Entry) (t : ℕ) → length (acts past t) ≤ length past
acts_few [] t = omega arith
acts_few (e ∷ past) t =
    let rest : length (acts past t) ≤ length past = acts_few past t in
    let one : length (act_in (access_of e) t (acts past t)) ≤ suc (length (acts past t)) = few (access_of e) in
    omega arith
  where
    by_own : (b : Bool) (a : Access) (l : List Access) → length (cond b (a ∷ l) l) ≤ suc (length l)
    by_own true a l = omega arith
    by_own false a l = omega arith

    few : (x : Option Access) → length (act_in x t (acts past t)) ≤ suc (length (acts past t))
    few None = omega arith
    few (Some a) = by_own (nat_eq a.by t) a (acts past t)

-- the newest of these accesses, one for each that the caller requested, are as it decided
abbrev NewestDecided : Caller → List CallerAccess → List Access → Type 0
NewestDecided c [] all = Unit {0}
NewestDecided c (x ∷ xs) [] = ⊥
NewestDecided c (x ∷ xs) (a ∷ rest) = NewestDecided c xs rest × ((d : Request) × (c rest ≡ Some d) × Fits (requested d) a)

some_is : (a b : Access) → Some a ≡ Some b → a ≡ b
some_is a b e = cc e

by_is : (a b : Access) (x : Option Access) → x ≡ Some a → x ≡ Some b → a.by ≡ b.by
by_is a b x e f = ap (λ (z : Access). z.by) (some_is a b (sym e ∙ f))

-- an access that a caller requested is the one that it decided on
decided_at : (c : Caller) (past : List Entry) (u : ℕ) (d : Request) (r : Reply) (a : Access) → access_in (event.Access u d) r ≡ Some a
    → AsDecided c a.by past (event.Access u d) r → c (acts past a.by) ≡ Some d
decided_at c past u d (reply.Looked k v) a is h = h (by_is (access u k Look v) a (Some (access u k Look v)) refl is)
decided_at c past u d (reply.Wrote k v) a is h = h (by_is (access u k Store v) a (Some (access u k Store v)) refl is)
decided_at c past u d _ a is h = absurd (cc is)

made_decided : (s : Configuration) (c : Caller) (past : List Entry) (event : Event) (r : Reply) (a : Access) → Legal s past
    → access_in event r ≡ Some a → Made (next_of s past a.by) event a → AsDecided c a.by past event r
    → NewestDecided c (caller_accesses past a.by) (acts past a.by)
    → NewestDecided c (caller_access_if event (Some a) a.by ++ caller_accesses past a.by) (a ∷ acts past a.by)
made_decided s c past (Step u) r a legal is made h ih =
    let only = only_own (run_of s.rules (call_of past a.by)) (caller_accesses past a.by) (acts past a.by) (plays s past a.by legal)
    (λ answers e. not_fit _ a answers e made) in
    subst (λ xs. NewestDecided c xs (a ∷ acts past a.by)) (sym only.2) tt
made_decided s c past (event.Access u d) r a legal is made h ih =
    subst (λ b. NewestDecided c (cond b (caller_access_of a ∷ []) [] ++ caller_accesses past a.by) (a ∷ acts past a.by))
    (sym (eq-eqb a.by a.by refl))
    (ih, (d, decided_at c past u d r a is h, made.3))
made_decided s c past (Start p args) r a legal is made h ih = absurd made
made_decided s c past (Commit u) r a legal is made h ih = absurd made
made_decided s c past (Quit u) r a legal is made h ih = absurd made

newest_decided : (s : Configuration) (c : Caller) (past : List Entry) (t : ℕ) → Legal s past → Decides c t past
    → NewestDecided c (caller_accesses past t) (acts past t)
newest_decided s c [] t legal h = tt
newest_decided s c (e ∷ past) t legal h = by_access (newest_decided s c past t legal.0 h.0) (access_of e) refl
  where
    xs_are : (x : Option Access) → access_of e ≡ x → (l : List CallerAccess) → caller_access_if e.event x t ≡ l
        → caller_accesses (e ∷ past) t ≡ l ++ caller_accesses past t
    xs_are x is l same = ap (λ z. z ++ caller_accesses past t)
        (caller_access_in-is e.event e.reply t ∙ (ap (λ y. caller_access_if e.event y t) is ∙ same))

    kept : NewestDecided c (caller_accesses past t) (acts past t) → (x : Option Access) → access_of e ≡ x
        → caller_access_if e.event x t ≡ [] → act_in (access_of e) t (acts past t) ≡ acts past t
        → NewestDecided c (caller_accesses (e ∷ past) t) (acts (e ∷ past) t)
    kept before x is none same = subst₂ (λ xs l. NewestDecided c xs l) (sym (xs_are x is [] none)) (sym same) before

    own : NewestDecided c (caller_accesses past t) (acts past t) → (a : Access) → access_of e ≡ Some a → a.by ≡ t
        → NewestDecided c (caller_accesses (e ∷ past) t) (acts (e ∷ past) t)
    own before a is z =
        subst₂ (λ xs l. NewestDecided c xs l) (sym (xs_are (Some a) is (caller_access_if e.event (Some a) t) refl))
        (sym (act_own (access_of e) a t (acts past t) is z))
        (subst (λ u. NewestDecided c (caller_access_if e.event (Some a) u ++ caller_accesses past u) (a ∷ acts past u)) z
        (made_decided s c past e.event e.reply a legal.0 is (access-fits s past e.event e.reply legal.1 a is)
        (subst (λ u. AsDecided c u past e.event e.reply) (sym z) h.1)
        (subst (λ u. NewestDecided c (caller_accesses past u) (acts past u)) (sym z) before)))

    by_access : NewestDecided c (caller_accesses past t) (acts past t) → (x : Option Access) → access_of e ≡ x
        → NewestDecided c (caller_accesses (e ∷ past) t) (acts (e ∷ past) t)
    by_access before None is = kept before None is (caller_access_if-none e.event t) (act_none (access_of e) t (acts past t) is)
    by_access before (Some a) is = ⊎_elim (λ z. own before a is z)
        (λ z. kept before (Some a) is (caller_access_if-other e.event a t z) (act_other (access_of e) a t (acts past t) is z))
        (cases_eq a.by t)

split_decided : (c : Caller) (more own : List Access) → NewestDecided c (map caller_access_of more) (more ++ own) → Decided c more own
split_decided c [] own h = tt
split_decided c (a ∷ more) own h = (split_decided c more own h.0, h.1)

-- ---- one after another

ended_run : (r : Run) (answers : List ℤ) → next_of_run r ≡ Ends answers → r ≡ ends answers
ended_run (looks k go) answers e = absurd (cc e)
ended_run (puts k v rest) answers e = absurd (cc e)
ended_run (ends given) answers e = ap (λ l. ends l) (cc e)
ended_run (raises code) answers e = absurd (cc e)

raised_run : (r : Run) (code : ℕ) → next_of_run r ≡ Raises code → r ≡ raises code
raised_run (looks k go) code e = absurd (cc e)
raised_run (puts k v rest) code e = absurd (cc e)
raised_run (ends given) code e = absurd (cc e)
raised_run (raises given) code e = ap (λ l. raises l) (cc e)

-- the transaction of a commit, run alone after those before it
commit_ran : (s : Configuration) (callers : ℕ → Caller) (n : ℕ) (past : List Entry) (event : Event) (r : Reply) → Legal s past
    → (c : Commits s past event r) → length past ≤ n → Decides (callers c.t) c.t past → callers c.t (acts past c.t) ≡ None
    → CallersAgree s past callers n → CallersAgree s (commit_entry c.t c.answers ∷ past) callers n
commit_ran s callers n past event r legal c most decide stop ih =
    let t : ℕ = c.t in
    let before : Turns = callers_in_turn s callers n past in
    let m : Contents = before.last in
    let run : Run = run_of s.rules (call_of past t) in
    let p = plays s past t legal in
    let found : FindsIn m (p.more ++ p.own) = subst (FindsIn m) p.all_are
    (finds_in m (settled s.opening past) past t ih.database (commit_agrees s past event r legal c)) in
    let by : AllBy t (p.more ++ p.own) = subst (AllBy t) p.all_are (all_by past t) in
    let decided : Decided (callers t) p.more p.own = split_decided (callers t) p.more p.own
    (subst₂ (λ xs l. NewestDecided (callers t) xs l) p.caller_accesses_are p.all_are (newest_decided s (callers t) past t legal decide)) in
    let alone = played_alone t run m p.own p.as_requested (finds_own m p.more p.own found) (own_by t p.more p.own by) in
    let end : left run p.own ≡ ends c.answers = ended_run (left run p.own) c.answers
    (sym (left_next run p.own p.as_requested) ∙ own_end run (caller_accesses past t) (acts past t) c.answers p c.next) in
    let procedure : by_procedure t run (so_far [] m) ≡ so_far p.own alone.0 = alone.1
    ∙ ap (λ q. by_procedure t q (so_far p.own alone.0)) end in
    let outcome : serial run m ≡ Done c.answers alone.0 = alone.2 ∙ ap (λ q. serial q alone.0) end in
    let more = decided_alone t (callers t) m p.own p.more alone.0 decided found by alone.3 in
    let few : length p.more ≤ n =
    (let all : length (acts past t) ≤ length past = acts_few past t in
    let long : length (acts past t) ≡ length (p.more ++ p.own) = ap length p.all_are in
    let both = length-append p.more p.own in omega arith) in
    let rest : by_caller t (callers t) n (so_far p.own alone.0) ≡ so_far (acts past t) more.0 =
    stays t (callers t) (so_far p.own alone.0) (p.more ++ p.own) more.0 (length p.more) n more.1
    (subst (λ l. callers t l ≡ None) p.all_are stop) few
    ∙ ap (λ l. so_far l more.0) (sym p.all_are) in
    let is : with_run t (callers t) n run before ≡ with_turn (record { result = GaveAnswers c.answers; acts = acts past t }) more.0 before
    = ap₂ (λ o a. after_procedure t (callers t) n o a before) outcome procedure
    ∙ ap (λ (a : Alone). with_turn (record { result = GaveAnswers c.answers; acts = a.acts }) a.map before) rest in
    record {
      turns = ap (λ (a : Turns). a.turns) is ∙ ap (λ l. record { result = GaveAnswers c.answers; acts = acts past t } ∷ l) ih.turns;
      database = λ k. ap (λ (a : Turns). a.last k) is
          ∙ (more.2 k
          ∙ (ap (λ l. over m l k) (sym p.all_are)
          ∙ (over-acts m past t k
          ∙ (ap (λ v. value_or (newest_store (λ u. nat_eq u t) k past) v) (ih.database k)
          ∙ sym (settled_commit s past t c.answers k legal c.is_live)))));
    }
  where
    own_by : (t : ℕ) (more own : List Access) → AllBy t (more ++ own) → AllBy t own
    own_by t [] own h = h
    own_by t (a ∷ more) own h = own_by t more own h.0

-- so is one that is refused
refused_ran : (s : Configuration) (callers : ℕ → Caller) (n : ℕ) (past : List Entry) (e : Entry) → Legal s (e ∷ past)
    → (x : Refusal s past e.event e.reply) → CallersAgree s past callers n → CallersAgree s (e ∷ past) callers n
refused_ran s callers n past e legal x ih =
    let t : ℕ = x.undoing.t in
    let before : Turns = callers_in_turn s callers n past in
    let m : Contents = before.last in
    let run : Run = run_of s.rules (call_of past t) in
    let p = plays s past t legal.0 in
    let only = only_own run (caller_accesses past t) (acts past t) p (λ answers e. cc (sym x.next ∙ e)) in
    let found : FindsIn m p.own = subst (FindsIn m) only.1
    (finds_in m (settled s.opening past) past t ih.database (refusal_agrees s past e.event e.reply legal.0 x)) in
    let alone = played_alone t run m p.own p.as_requested found (subst (AllBy t) only.1 (all_by past t)) in
    let end : left run p.own ≡ raises x.code = raised_run (left run p.own) x.code (sym (left_next run p.own p.as_requested)
    ∙ subst (λ l. requests_of run (values_read l) (length l) ≡ Raises x.code) only.1 x.next) in
    let procedure : by_procedure t run (so_far [] m) ≡ so_far (acts past t) alone.0 =
    alone.1 ∙ (ap (λ q. by_procedure t q (so_far p.own alone.0)) end ∙ ap (λ l. so_far l alone.0) (sym only.1)) in
    let outcome : serial run m ≡ Asked x.code = alone.2 ∙ ap (λ q. serial q alone.0) end in
    let is : with_entry s callers n past e.event e.reply before
    ≡ with_turn (record { result = RaisedCode x.code; acts = acts past t }) m before
    = ap₂ (λ ev r. with_entry s callers n past ev r before) x.event_is x.reply_is
    ∙ ap₂ (λ o a. after_procedure t (callers t) n o a before) outcome procedure in
    record {
      turns = ap (λ (a : Turns). a.turns) is
          ∙ (ap (λ l. record { result = RaisedCode x.code; acts = acts past t } ∷ l) ih.turns
          ∙ ap (λ l. l ++ turns_of past) (sym (ap₂ (λ ev r. turn_in past ev r) x.event_is x.reply_is)));
      database = λ k. ap (λ (a : Turns). a.last k) is
          ∙ (ih.database k ∙ sym (settled_quiet s past e k legal (λ u g. refusal-no_commit x u g)));
    }

-- at any other entry none runs
no_turn : (s : Configuration) (callers : ℕ → Caller) (n : ℕ) (past : List Entry) (event : Event) (r : Reply) (before : Turns)
    → reported_in r ≡ []
    → (with_entry s callers n past event r before ≡ before) × (turn_in past event r ≡ [])
no_turn s callers n past event (reply.Committed answers) before e = absurd (cc e)
no_turn s callers n past event (reply.Refused code fell) before e = absurd (cc e)
no_turn s callers n past event _ before e = (refl, refl)

one_ran : (s : Configuration) (callers : ℕ → Caller) (n : ℕ) (past : List Entry) (e : Entry) → Legal s (e ∷ past) → length past ≤ n
    → ((t : ℕ) → committed (e ∷ past) t ≡ true → Decides (callers t) t (e ∷ past)) → CallersAgree s past callers n
    → Commits s past e.event e.reply ⊎ (Refusal s past e.event e.reply ⊎ Uncommitted s past e.event e.reply)
    → CallersAgree s (e ∷ past) callers n
one_ran s callers n past e legal most decide ih (inl c) =
    let decides = decide c.t (subst₂ (λ event r. committed (record { event = event; reply = r } ∷ past) c.t ≡ true) (sym c.event_is)
    (sym c.reply_is) (committed_own past c.t c.answers)) in
    subst₂ (λ event r. CallersAgree s (record { event = event; reply = r } ∷ past) callers n) (sym c.event_is) (sym c.reply_is)
    (commit_ran s callers n past e.event e.reply legal.0 c most decides.0
    (subst₂ (λ event r. AsDecided (callers c.t) c.t past event r) c.event_is c.reply_is decides.1 refl) ih)
one_ran s callers n past e legal most decide ih (inr (inl x)) = refused_ran s callers n past e legal x ih
one_ran s callers n past e legal most decide ih (inr (inr quiet)) =
    let none = no_turn s callers n past e.event e.reply (callers_in_turn s callers n past) quiet.reports_none in
    record {
      turns = ap (λ (a : Turns). a.turns) none.0 ∙ (ih.turns ∙ ap (λ l. l ++ turns_of past) (sym none.1));
      database = λ k. ap (λ (a : Turns). a.last k) none.0 ∙ (ih.database k ∙ sym (settled_quiet s past e k legal quiet.no_commit));
    }

pub callers_run_alone : CallersRunAlone
callers_run_alone s [] legal callers decide n most = record { turns = refl; database = λ k. refl }
callers_run_alone s (e ∷ past) legal callers decide n most =
    let fewer : length past ≤ n = omega arith in
    one_ran s callers n past e legal fewer decide
    (callers_run_alone s past legal.0 callers (λ t g. (decide t (committed-stays s e past legal t g)).0) n fewer)
    (commits_or_not (effect s past e.event e.reply legal.1))

-- ---- there are such callers: a function that goes by the number of accesses so far

abbrev now_requested : Event → Reply → ℕ → Option Request
now_requested (event.Access u d) (reply.Looked k v) t = cond (nat_eq u t) (Some d) None
now_requested (event.Access u d) (reply.Wrote k v) t = cond (nat_eq u t) (Some d) None
now_requested _ _ t = None

abbrev script : List Entry → ℕ → Caller
script [] t l = None
script (e ∷ past) t l = cond (nat_eq (length l) (length (acts past t))) (now_requested e.event e.reply t) (script past t l)

script_here : (e : Entry) (past : List Entry) (t : ℕ) (l : List Access) → length l ≡ length (acts past t)
    → script (e ∷ past) t l ≡ now_requested e.event e.reply t
script_here e past t l h = cond-true (nat_eq (length l) (length (acts past t))) (now_requested e.event e.reply t) (script past t l)
    (eq-eqb _ _ h)

script_older : (e : Entry) (past : List Entry) (t : ℕ) (l : List Access) → length l ≢ length (acts past t)
    → script (e ∷ past) t l ≡ script past t l
script_older e past t l h = cond-false (nat_eq (length l) (length (acts past t))) (now_requested e.event e.reply t)
    (script past t l) (ne_eqb _ _ h)

acts_grow : (x : Option Access) (t : ℕ) (l : List Access) → length l ≤ length (act_in x t l)
acts_grow None t l = omega arith
acts_grow (Some a) t l = by_own (nat_eq a.by t)
  where
    by_own : (b : Bool) → length l ≤ length (cond b (a ∷ l) l)
    by_own true = omega arith
    by_own false = omega arith

own_longer : (a : Access) (t : ℕ) (l : List Access) → a.by ≡ t → length (act_in (Some a) t l) ≡ suc (length l)
own_longer a t l z = ap length (act_own (Some a) a t l refl z)

none_now : (event : Event) (r : Reply) (past : List Entry) (t : ℕ)
    → length (act_in (access_in event r) t (acts past t)) ≤ length (acts past t)
    → now_requested event r t ≡ None
none_now (event.Access u d) (reply.Looked k v) past t h = elim (cases_eq u t) [
  | inl z ↦ let longer = own_longer (access u k Look v) t (acts past t) z in absurd (omega arith)
  | inr n ↦ cond-false (nat_eq u t) (Some d) None (ne_eqb u t n)
]
none_now (event.Access u d) (reply.Wrote k v) past t h = elim (cases_eq u t) [
  | inl z ↦ let longer = own_longer (access u k Store v) t (acts past t) z in absurd (omega arith)
  | inr n ↦ cond-false (nat_eq u t) (Some d) None (ne_eqb u t n)
]
none_now _ _ past t h = refl

no_more_requested : (past : List Entry) (t : ℕ) (l : List Access) → length (acts past t) ≤ length l → script past t l ≡ None
no_more_requested [] t l most = refl
no_more_requested (e ∷ past) t l most =
    let grow : length (acts past t) ≤ length (acts (e ∷ past) t) = acts_grow (access_of e) t (acts past t) in
    elim (cases_eq (length l) (length (acts past t))) [
      | inl z ↦ script_here e past t l z ∙ none_now e.event e.reply past t (omega arith)
      | inr n ↦ script_older e past t l n ∙ no_more_requested past t l (omega arith)
    ]

entry_decided : (past : List Entry) (event : Event) (r : Reply) (t : ℕ) (c : Caller)
    → ((l : List Access) → length l < length (act_in (access_in event r) t (acts past t)) → c l
    ≡ script (record { event = event; reply = r } ∷ past) t l)
    → (committed (record { event = event; reply = r } ∷ past) t ≡ true → (l : List Access)
    → length (act_in (access_in event r) t (acts past t)) ≤ length l → c l ≡ None) → AsDecided c t past event r
entry_decided past (event.Access u d) (reply.Looked k v) t c agree stop = λ z.
    let longer = own_longer (access u k Look v) t (acts past t) z in
    agree (acts past t) (omega arith) ∙ (script_here (record { event = event.Access u d; reply = reply.Looked k v }) past t
    (acts past t) refl ∙ cond-true (nat_eq u t) (Some d) None (eq-eqb u t z))
entry_decided past (event.Access u d) (reply.Wrote k v) t c agree stop = λ z.
    let longer = own_longer (access u k Store v) t (acts past t) z in
    agree (acts past t) (omega arith) ∙ (script_here (record { event = event.Access u d; reply = reply.Wrote k v }) past t
    (acts past t) refl ∙ cond-true (nat_eq u t) (Some d) None (eq-eqb u t z))
entry_decided past (Commit u) (reply.Committed answers) t c agree stop = λ z.
    stop (subst (λ w. committed (commit_entry u answers ∷ past) w ≡ true) z (committed_own past u answers)) (acts past t) (omega arith)
entry_decided past _ _ t c agree stop = tt

-- a committed transaction makes no more accesses
acts_stay : (s : Configuration) (e : Entry) (past : List Entry) (t : ℕ) → Legal s (e ∷ past) → committed past t ≡ true
    → acts (e ∷ past) t ≡ acts past t
acts_stay s e past t h g = by_access (access_of e) refl
  where
    by_access : (x : Option Access) → access_of e ≡ x → acts (e ∷ past) t ≡ acts past t
    by_access None is = act_none (access_of e) t (acts past t) is
    by_access (Some a) is = ⊎_elim
        (λ z. absurd (live-not_committed past a.by (access-live s past e.event e.reply h.1 a is)
        (subst (λ u. committed past u ≡ true) (sym z) g)))
        (λ z. act_other (access_of e) a t (acts past t) is z) (cases_eq a.by t)

decides : (s : Configuration) (past : List Entry) → Legal s past → (t : ℕ) (c : Caller)
    → ((l : List Access) → length l < length (acts past t) → c l ≡ script past t l)
    → (committed past t ≡ true → (l : List Access) → length (acts past t) ≤ length l → c l ≡ None) → Decides c t past
decides s [] h t c agree stop = tt
decides s (e ∷ past) h t c agree stop =
    let grow : length (acts past t) ≤ length (acts (e ∷ past) t) = acts_grow (access_of e) t (acts past t) in (
      decides s past h.0 t c
          (λ l less. agree l (omega arith) ∙ script_older e past t l (λ z. omega arith))
          (λ g l most. stop (committed-stays s e past h t g) l (subst (λ q. length q ≤ length l) (sym (acts_stay s e past t h g)) most)),
      entry_decided past e.event e.reply t c agree stop,
    )

pub callers_exist : CallersExist
callers_exist s past h t = (
  script past t,
  decides s past h t (script past t) (λ l less. refl)
      (λ g l most. no_more_requested past t l most),
)

-- ---- without such accesses

caller_access_none : (event : Event) (r : Reply) (t : ℕ) → IsOfProcedure event → caller_access_in event r t ≡ []
caller_access_none (event.Access u d) r t h = absurd h
caller_access_none (Start p args) r t h = refl
caller_access_none (Step u) r t h = refl
caller_access_none (Commit u) r t h = refl
caller_access_none (Quit u) r t h = refl

caller_accesses_none : (past : List Entry) (t : ℕ) → AreOfProcedures past → caller_accesses past t ≡ []
caller_accesses_none [] t h = refl
caller_accesses_none (e ∷ past) t h = ap₂ (λ x l. x ++ l) (caller_access_none e.event e.reply t h.1) (caller_accesses_none past t h.0)

-- each of these calls gives what its procedure gives
abbrev AreProcedures : Rules → List Call → Type 0
AreProcedures r [] = Unit {0}
AreProcedures r (c ∷ before) = AreProcedures r before × ((m : Contents) → outcome_in r c m ≡ serial (run_of r c) m)

procedures_on : (past : List Entry) (event : Event) (r : Reply) (rules : Rules) → AreOfProcedures past
    → AreProcedures rules (reported_calls past)
    → AreProcedures rules (reported_call_in past event r ++ reported_calls past)
procedures_on past event (reply.Committed answers) rules h before = (
  before,
  λ m. ap (λ xs. with_accesses xs (serial (run_of rules (call_of past (subject event))) m))
      (caller_accesses_none past (subject event) h),
)
procedures_on past event (reply.Refused code fell) rules h before = (
  before,
  λ m. ap (λ xs. with_accesses xs (serial (run_of rules (call_of past (subject event))) m))
      (caller_accesses_none past (subject event) h),
)
procedures_on past event _ rules h before = before

are_procedures : (past : List Entry) (rules : Rules) → AreOfProcedures past → AreProcedures rules (reported_calls past)
are_procedures [] rules h = tt
are_procedures (e ∷ past) rules h = procedures_on past e.event e.reply rules h.0 (are_procedures past rules h.0)

-- so the serial run is one of procedures
in_turn_same : (s : Configuration) (calls : List Call) → AreProcedures s.rules calls → run_in_turn s calls ≡ procedures_in_turn s calls
in_turn_same s [] h = refl
in_turn_same s (c ∷ before) h =
    ap (λ (o : Outcome). with_outcome o (run_in_turn s before)) (h.1 (run_in_turn s before).last)
    ∙ ap (λ (f : Folded). with_outcome (serial (run_of s.rules c) f.last) f) (in_turn_same s before h.0)

pub procedures_run_alone : ProceduresRunAlone
procedures_run_alone s past legal h =
    let replay = is_serializable s past legal in
    let same = in_turn_same s (reported_calls past) (are_procedures past s.rules h) in
    record {
      answers = sym (ap (λ (f : Folded). f.results) same) ∙ replay.answers;
      database = λ k. sym (ap (λ (f : Folded). f.last k) same) ∙ replay.database k;
    }
