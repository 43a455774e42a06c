-- Each access and each end leaves less to do.
use Rattle.std.specs.Prelude.{◌≡◌, ℕ, zero, suc, ◌+◌, ◌*◌, ◌<◌, ◌≤◌, Bool, true, false, not, ◌||◌, cond, ◌⊎◌, nat_eq, List, [], ◌∷◌, ◌++◌, length, Option, Some, None}
use Rattle.std.specs.List.{filter}
use Rattle.std.specs.Option.{is_none}
use Rattle.std.proofs.Common.{refl, sym, ap, ◌∙◌, subst, inl, inr, arith, append_assoc, length-append}
use Rattle.std.proofs.Math.Nat.{suc-mul, mul-le-mul_right}
use Rattle.std.proofs.lemmas.Bool.{both_ways, false_from_ne_true}
use Rattle.sgt_model.specs.declared.event.Event.{Event}
use Rattle.sgt_model.specs.declared.event.Event.TheVariants.{Start, Step, Commit, Quit}
use Rattle.sgt_model.specs.declared.event.Event.TheVariants as event
use Rattle.sgt_model.specs.declared.reply.Reply.{Reply}
use Rattle.sgt_model.specs.declared.reply.Fate.{Fate}
use Rattle.sgt_model.specs.declared.entry.Entry.{Entry}
use Rattle.sgt_model.specs.Runs.{Run, looks, puts}
use Rattle.sgt_model.specs.Runs as runs
use Rattle.sgt_model.specs.Syntax.{ProcedureText}
use Rattle.sgt_model.specs.Paths.{Member}
use Rattle.sgt_model.specs.Accesses.{Access, access_in, access_of, acts, act_in}
use Rattle.sgt_model.specs.Fates.{is_start, start_count, started_ones, fate_of, live, live_ones}
use Rattle.sgt_model.specs.Configurations.{Configuration}
use Rattle.sgt_model.specs.Progress.{call_of, caller_accesses, run_of, values_read, made}
use Rattle.sgt_model.specs.Questions.{is_ending}
use Rattle.sgt_model.specs.Legality.{LegalReply, Legal}
use Rattle.sgt_model.proofs.Facts.{live-no_fate, live-started, live-before, call-kept, access-fits, access-live}
use Rattle.sgt_model.specs.declared.limits.Asks.{Asks}
use Rattle.sgt_model.specs.declared.limits.Asks.TheVariants.{AtStep, AtCommit}
use Rattle.sgt_model.specs.Traces.{Next, Looks, Puts, Ends, Raises}
use Rattle.sgt_model.specs.Progress.{next_of}
use Rattle.sgt_model.proofs.Acts.{requests_of, AsRequested}
use Rattle.sgt_model.proofs.Effects.{Fits, Made, effect}
use Rattle.sgt_model.proofs.Capacity.{begun_below, starts_or_not, limits_are_kept}
use Rattle.sgt_model.proofs.Plays.{act_own, not_fit, only_own, plays}
use Rattle.sgt_model.proofs.Listed.{kept_member, member_kept}
use Rattle.sgt_model.proofs.SomeReply.{some_reply_is_legal, begun_has}
use Rattle.sgt_model.proofs.Questions.{endings_end_one}
use Rattle.sgt_progress.specs.Moves.{next_event, event_for, event_of_code, has_moved, CanMove}
use Rattle.sgt_progress.specs.Alone.{NoneLive, IsAlone, IsStepOrCommitOf, IsNoQuitOf}
use Rattle.sgt_progress.specs.Drains.{accesses_left, total, events_left, moves, makes_request, requests_made, MovesAreFew, DrainsWithin, HistoriesDrain, AreStepsAndCommits, SomeStepsDrain, EndsWithin, AloneEnds, EventsLeftAreFew}
use Rattle.sgt_progress.proofs.Alone.{asks-no_start, goes_on}
use Rattle.sgt_proc.specs.LongestPaths.{most_accesses}
use Rattle.sgt_model.proofs.Traces.{left_by, left, next_of_run, left_next}
use Rattle.sgt_proc.proofs.LongestPaths.{MakesAtMost, within_most}
use Rattle.sgt_progress.proofs.Moves.{no_deadlock}

-- on totals

abbrev pub counted : (ℕ → Bool) → (ℕ → ℕ) → ℕ → ℕ
counted p f t = cond (p t) (f t) 0

total-filter : (p : ℕ → Bool) (f : ℕ → ℕ) (l : List ℕ) → total f (filter p l) ≡ total (counted p f) l
total-filter p f [] = refl
total-filter p f (t ∷ l) = go (p t) (total-filter p f l)
  where
    go : (b : Bool) → total f (filter p l) ≡ total (counted p f) l
        → total f (cond b (t ∷ filter p l) (filter p l)) ≡ cond b (f t) 0 + total (counted p f) l
    go true h = ap (λ n. f t + n) h
    go false h = h ∙ omega arith

total_fewer : (f g : ℕ → ℕ) (l : List ℕ) → ((u : ℕ) → Member u l → f u ≤ g u) → total f l ≤ total g l
total_fewer f g [] h = omega arith
total_fewer f g (t ∷ l) h = let a = h t (inl refl) in let b = total_fewer f g l (λ u m. h u (inr m)) in omega arith

total_less : (f g : ℕ → ℕ) (l : List ℕ) → ((u : ℕ) → Member u l → f u ≤ g u) → (t : ℕ) → Member t l → f t + 1 ≤ g t
    → total f l + 1 ≤ total g l
total_less f g [] h t m less = absurd m
total_less f g (u ∷ l) h t (inl e) less =
    let a : f u + 1 ≤ g u = subst (λ x. f x + 1 ≤ g x) e less in let b = total_fewer f g l (λ v m. h v (inr m)) in omega arith
total_less f g (u ∷ l) h t (inr m) less =
    let a = h u (inl refl) in let b = total_less f g l (λ v k. h v (inr k)) t m less in omega arith

total_some : (f : ℕ → ℕ) (l : List ℕ) (t : ℕ) → Member t l → f t ≤ total f l
total_some f [] t m = absurd m
total_some f (u ∷ l) t (inl e) = let a : f t ≡ f u = ap f e in omega arith
total_some f (u ∷ l) t (inr m) = let a = total_some f l t m in omega arith

-- what an entry leaves

act_in-more : (o : Option Access) (t : ℕ) (l : List Access) → length l ≤ length (act_in o t l)
act_in-more None t l = omega arith
act_in-more (Some a) t l = go (nat_eq a.by t)
  where
    go : (b : Bool) → length l ≤ length (cond b (a ∷ l) l)
    go true = omega arith
    go false = omega arith

-- an access of a procedure, and none on which a caller decided, is what the procedure wanted
step_fits : (n : Next) (event : Event) (r : Reply) (a : Access) → access_in event r ≡ Some a → makes_request event r ≡ false
    → Made n event a
    → Fits n a
step_fits n (Step u) r a is own fits = fits
step_fits n (event.Access u d) r a is own fits = absurd (both_ways _ own (ap (λ o. not (is_none o)) is))
step_fits n (Start p args) r a is own fits = absurd fits
step_fits n (Commit u) r a is own fits = absurd fits
step_fits n (Quit u) r a is own fits = absurd fits

-- the accesses on the longest path of t's procedure
abbrev pub most : Configuration → List Entry → ℕ → ℕ
most s past t = most_accesses (s.rules.procedures (call_of past t).procedure)

-- each access that a run wanted leaves one less on its longest path
one_less : (r : Run) (a : Access) → Fits (next_of_run r) a → (n : ℕ) → MakesAtMost r n → (m : ℕ) × MakesAtMost (left_by r a) m × (m + 1 ≤ n)
one_less (looks k go) a fits zero few = absurd few
one_less (looks k go) a fits (suc n) few = (n, few a.value, omega arith)
one_less (puts k v rest) a fits zero few = absurd few
one_less (puts k v rest) a fits (suc n) few = (n, few, omega arith)
one_less (runs.ends answers) a fits n few = absurd fits
one_less (runs.raises code) a fits n few = absurd fits

all_less : (r : Run) (n : ℕ) → MakesAtMost r n → (done : List Access) → AsRequested (requests_of r) done
    → (m : ℕ) × MakesAtMost (left r done) m × (m + length done ≤ n)
all_less r n few [] h = (n, few, omega arith)
all_less r n few (a ∷ done) h =
    let before = all_less r n few done h.0 in
    let one = one_less (left r done) a (subst (λ x. Fits x a) (left_next r done h.0) h.1) before.0 before.1 in
    let longer = before.2 in let less = one.2 in (one.0, one.1, omega arith)

-- with an access that its procedure wanted, t has made no more than its longest path has
pub made_few : (s : Configuration) (past : List Entry) → Legal s past → (t : ℕ) (a : Access) → Fits (next_of s past t) a
    → length (a ∷ acts past t) ≤ most s past t
made_few s past legal t a fits =
    let p : Option ProcedureText = s.rules.procedures (call_of past t).procedure in
    let run : Run = run_of s.rules (call_of past t) in
    let so_far = plays s past t legal in
    let only = only_own run (caller_accesses past t) (acts past t) so_far (λ answers e. not_fit _ a answers e fits) in
    let less = all_less run (most_accesses p) (within_most p (call_of past t).args) (a ∷ so_far.own)
    (so_far.as_requested, subst (λ l. Fits (requests_of run (values_read l) (length l)) a) only.1 fits) in
    let few : length (a ∷ so_far.own) ≤ most s past t = omega (arith, less.2) in
    subst (λ l. length (a ∷ l) ≤ most s past t) (sym only.1) few

-- of a live transaction the accesses that it can still make, and its end
abbrev pub weight : Configuration → List Entry → ℕ → ℕ
weight s past = counted (live past) (λ t. accesses_left s past t + 1)

-- it ends, or makes an access on its procedure's path
abbrev pub Moved : Configuration → List Entry → Entry → ℕ → Type 0
Moved s past e t = (live (e ∷ past) t ≡ false) ⊎ ((made (e ∷ past) t ≡ made past t + 1) × (made (e ∷ past) t ≤ most s past t))

module _ (s : Configuration) (past : List Entry) (e : Entry) (legal : Legal s (e ∷ past)) where
  most_kept : (u : ℕ) → u < start_count past → most s (e ∷ past) u ≡ most s past u
  most_kept u started = ap (λ c. most_accesses (s.rules.procedures c.procedure)) (call-kept s past e u legal.1 started)

  weight_fewer : (u : ℕ) → u < start_count past → weight s (e ∷ past) u ≤ weight s past u
  weight_fewer u started = go (live (e ∷ past) u) refl
    where
      go : (b : Bool) → live (e ∷ past) u ≡ b → cond b (accesses_left s (e ∷ past) u + 1) 0 ≤ weight s past u
      go false h = omega arith
      go true h =
          let before : weight s past u ≡ accesses_left s past u + 1 = ap (λ b. cond b (accesses_left s past u + 1) 0)
          (live-before e past u h started) in
          let more : made past u ≤ made (e ∷ past) u = act_in-more (access_of e) u (acts past u) in
          let same = most_kept u started in omega arith

  pub weight_less : (t : ℕ) → live past t ≡ true → Moved s past e t → weight s (e ∷ past) t + 1 ≤ weight s past t
  weight_less t alive (inl over) =
      let now : weight s (e ∷ past) t ≡ 0 = ap (λ b. cond b (accesses_left s (e ∷ past) t + 1) 0) over in
      let before : weight s past t ≡ accesses_left s past t + 1 = ap (λ b. cond b (accesses_left s past t + 1) 0) alive in omega arith
  weight_less t alive (inr (one, few)) =
      let now = cond_most (live (e ∷ past) t) (accesses_left s (e ∷ past) t + 1) in
      let before : weight s past t ≡ accesses_left s past t + 1 = ap (λ b. cond b (accesses_left s past t + 1) 0) alive in
      let same = most_kept t (live-started past t alive) in omega arith
    where
      cond_most : (b : Bool) (n : ℕ) → cond b n 0 ≤ n
      cond_most true n = omega arith
      cond_most false n = omega arith

  -- what moves, by no access on which a caller decided
  moved : makes_request e.event e.reply ≡ false → has_moved e.event e.reply ≡ true → (t : ℕ) × (live past t ≡ true) × Moved s past e t
  moved own h = by_access (access_of e) refl h
    where
      by_access : (o : Option Access) → access_of e ≡ o → (not (is_none o) || is_ending e.reply) ≡ true
          → (t : ℕ) × (live past t ≡ true) × Moved s past e t
      by_access None is h = let w = endings_end_one s past e legal h in (w.0, w.2, inl w.3)
      by_access (Some a) is h =
          let longer = act_own (access_of e) a a.by (acts past a.by) is refl in
          let few = made_few s past legal.0 a.by a (step_fits (next_of s past a.by) e.event e.reply a is own
          (access-fits s past e.event e.reply legal.1 a is)) in (
            a.by,
            access-live s past e.event e.reply legal.1 a is,
            inr (ap length longer ∙ omega arith, subst (λ l. length l ≤ most s past a.by) (sym longer) few),
          )

  module _ (none : is_start e.reply ≡ false) where
    after : events_left s (e ∷ past) ≡ total (weight s (e ∷ past)) (started_ones past)
    after = total-filter (live (e ∷ past)) (λ t. accesses_left s (e ∷ past) t + 1) (started_ones (e ∷ past))
        ∙ ap (λ b. total (weight s (e ∷ past)) (cond b (started_ones past ++ start_count past ∷ []) (started_ones past))) none

    before : events_left s past ≡ total (weight s past) (started_ones past)
    before = total-filter (live past) (λ t. accesses_left s past t + 1) (started_ones past)

    pub left_fewer : events_left s (e ∷ past) ≤ events_left s past
    left_fewer =
        let a = after in let b = before in
        let f = total_fewer (weight s (e ∷ past)) (weight s past) (started_ones past) (λ u m. weight_fewer u (begun_below past u m)) in
        omega arith

    pub left_less : makes_request e.event e.reply ≡ false → has_moved e.event e.reply ≡ true
        → events_left s (e ∷ past) + 1 ≤ events_left s past
    left_less own h =
        let w = moved own h in
        let a = after in let b = before in
        let f = total_less (weight s (e ∷ past)) (weight s past) (started_ones past) (λ u m. weight_fewer u (begun_below past u m)) w.0
        (begun_has past w.0 (live-started past w.0 w.1)) (weight_less w.0 w.1 w.2) in
        omega arith

pub moves_are_few : MovesAreFew
moves_are_few s past legal [] all none = omega arith
moves_are_few s past legal (e ∷ later) all none =
    go (moves_are_few s past legal later all.0 none.1) (makes_request e.event e.reply) (has_moved e.event e.reply) refl refl
  where
    go : moves later + events_left s (later ++ past) ≤ events_left s past + requests_made later
        → (asked b : Bool) → makes_request e.event e.reply ≡ asked → has_moved e.event e.reply ≡ b
        → cond b (moves later + 1) (moves later) + events_left s (e ∷ (later ++ past)) ≤ events_left s past + cond asked
        (requests_made later + 1) (requests_made later)
    go rest true true own h = let fewer = left_fewer s (later ++ past) e all none.0 in omega arith
    go rest true false own h = let fewer = left_fewer s (later ++ past) e all none.0 in omega arith
    go rest false true own h = let less = left_less s (later ++ past) e all none.0 own h in omega arith
    go rest false false own h = let fewer = left_fewer s (later ++ past) e all none.0 in omega arith

-- the next event

pub next_is_own : (s : Configuration) (past : List Entry) (t : ℕ) → IsStepOrCommitOf (next_event s past t) t
next_is_own s past t = by_next (next_of s past t) s.rules.limits.asks
  where
    by_asks : (asks : Asks) → IsStepOrCommitOf (event_of_code asks t) t
    by_asks AtStep = inl refl
    by_asks AtCommit = inr refl

    by_next : (n : Next) (asks : Asks) → IsStepOrCommitOf (event_for asks t n) t
    by_next (Looks k) asks = inl refl
    by_next (Puts k v) asks = inl refl
    by_next (Ends answers) asks = inr refl
    by_next (Raises code) asks = by_asks asks

pub no_request : (event : Event) (t : ℕ) → IsStepOrCommitOf event t → (r : Reply) → makes_request event r ≡ false
no_request event t (inl e) r = ap (λ v. makes_request v r) e
no_request event t (inr e) r = ap (λ v. makes_request v r) e

pub asked-no_start : (s : Configuration) (past : List Entry) (event : Event) (t : ℕ) → IsNoQuitOf event t → (r : Reply)
    → LegalReply s past event r → is_start r ≡ false
asked-no_start s past event t asks r h = elim (starts_or_not (effect s past event r h)) [
  | inl b ↦ absurd (asks-no_start event t asks b.procedure b.args b.event_is)
  | inr none ↦ none
]

pub live-listed : (past : List Entry) (t : ℕ) → live past t ≡ true → Member t (live_ones past)
live-listed past t alive = kept_member (live past) t (started_ones past) alive (begun_has past t (live-started past t alive))

pub some_left : (s : Configuration) (past : List Entry) (t : ℕ) → live past t ≡ true → accesses_left s past t + 1 ≤ events_left s past
some_left s past t alive = total_some (λ u. accesses_left s past u + 1) (live_ones past) t (live-listed past t alive)

-- some transaction is live, or none is
pub someone : (past : List Entry) → NoneLive past ⊎ ((t : ℕ) × (live past t ≡ true))
someone past = by_live (live_ones past) refl
  where
    by_live : (l : List ℕ) → live_ones past ≡ l → NoneLive past ⊎ ((t : ℕ) × (live past t ≡ true))
    by_live [] e = inl (λ u. false_from_ne_true (live past u) (λ alive. subst (λ l. Member u l) e (live-listed past u alive)))
    by_live (t ∷ l) e = inr (t, (member_kept (live past) t (started_ones past) (subst (λ m. Member t m) (sym e) (inl refl))).0)

drain : (n : ℕ) (s : Configuration) (past : List Entry) → Legal s past → events_left s past ≤ n → DrainsWithin n s past
drain zero s past legal few = λ u. false_from_ne_true (live past u) (λ alive. let some = some_left s past u alive in omega arith)
drain (suc n) s past legal few = elim (someone past) [
  | inl none ↦ inl none
  | inr (t, alive) ↦ let w = no_deadlock s past legal t alive in
      inr (
        w.0,
        w.1,
        λ r h. let less = left_less s past (record { event = next_event s past w.0; reply = r }) (legal, h)
            (asked-no_start s past (next_event s past w.0) w.0 (inl (next_is_own s past w.0)) r h)
            (no_request (next_event s past w.0) w.0 (next_is_own s past w.0) r) (w.3 r h) in
            drain n s (record { event = next_event s past w.0; reply = r } ∷ past) (legal, h) (omega arith),
      )
]

pub histories_drain : HistoriesDrain
histories_drain s past legal = drain (events_left s past) s past legal (omega arith)

-- by some replies

steps_older : (later : List Entry) (e : Entry) → AreStepsAndCommits later → ((t : ℕ) × IsStepOrCommitOf e.event t)
    → AreStepsAndCommits (later ++ e ∷ [])
steps_older [] e h one = (one, tt)
steps_older (x ∷ later) e h one = (h.0, steps_older later e h.1 one)

abbrev Drained : ℕ → Configuration → List Entry → Type 0
Drained n s past = (later : List Entry) × Legal s (later ++ past) × AreStepsAndCommits later × (length later ≤ n) × NoneLive (later ++ past)

drained : (n : ℕ) (s : Configuration) (past : List Entry) → Legal s past → DrainsWithin n s past → Drained n s past
drained zero s past legal none = ([], legal, tt, omega arith, none)
drained (suc n) s past legal (inl none) = ([], legal, tt, omega arith, none)
drained (suc n) s past legal (inr (t, alive, more)) =
    let some = some_reply_is_legal s past (next_event s past t) in
    let e : Entry = record { event = next_event s past t; reply = some.0 } in
    let rest = drained n s (e ∷ past) (legal, some.1) (more some.0 some.1) in
    let long : length (rest.0 ++ e ∷ []) ≡ length rest.0 + 1 = length-append rest.0 (e ∷ []) in
    let short = rest.3 in (
      rest.0 ++ e ∷ [],
      subst (Legal s) (sym (append_assoc rest.0 (e ∷ []) past)) rest.1,
      steps_older rest.0 e rest.2 (t, next_is_own s past t),
      omega arith,
      subst NoneLive (sym (append_assoc rest.0 (e ∷ []) past)) rest.4,
    )

pub some_steps_drain : SomeStepsDrain
some_steps_drain s past legal = drained (events_left s past) s past legal (histories_drain s past legal)

-- alone

pub alone_moves : (s : Configuration) (past : List Entry) → Legal s past → (t : ℕ) → IsAlone past t → CanMove s past t
alone_moves s past legal t alone = let w = no_deadlock s past legal t alone.is_live in subst (CanMove s past) (alone.only w.0 w.1) w.3

has_ended : (n : ℕ) (s : Configuration) (past : List Entry) (t : ℕ) → live past t ≡ false → EndsWithin n s past t
has_ended zero s past t over = over
has_ended (suc n) s past t over = inl over

ended-not_live : (past : List Entry) (t : ℕ) (f : Fate) → fate_of past t ≡ Some f → live past t ≡ false
ended-not_live past t f is = false_from_ne_true (live past t) (λ alive. cc (sym is ∙ live-no_fate past t alive))

ends : (n : ℕ) (s : Configuration) (past : List Entry) (t : ℕ) → Legal s past → IsAlone past t → accesses_left s past t + 1 ≤ n
    → EndsWithin n s past t
ends zero s past t legal alone few = absurd (omega arith)
ends (suc n) s past t legal alone few = inr (λ r h.
    let e : Entry = record { event = next_event s past t; reply = r } in
    elim (goes_on s past e t (legal, h) (inl (next_is_own s past t)) alone) [
      | inl again ↦
          let w = moved s past e (legal, h) (no_request (next_event s past t) t (next_is_own s past t) r)
          (alone_moves s past legal t alone r h) in
          let less = weight_less s past e (legal, h) t alone.is_live (subst (Moved s past e) (alone.only w.0 w.1) w.2) in
          let now : weight s (e ∷ past) t ≡ accesses_left s (e ∷ past) t + 1
          = ap (λ b. cond b (accesses_left s (e ∷ past) t + 1) 0) again.is_live in
          let before : weight s past t ≡ accesses_left s past t + 1 = ap (λ b. cond b (accesses_left s past t + 1) 0) alone.is_live in
          ends n s (e ∷ past) t (legal, h) again (omega arith)
      | inr (f, is, own) ↦ has_ended n s (e ∷ past) t (ended-not_live (e ∷ past) t f is)
    ])

pub alone_ends : AloneEnds
alone_ends s past legal t alone = ends (accesses_left s past t + 1) s past t legal alone (omega arith)

-- the bound

total_few : (f : ℕ → ℕ) (m : ℕ) (l : List ℕ) → ((t : ℕ) → f t ≤ m) → total f l ≤ length l * m
total_few f m [] h = omega arith
total_few f m (t ∷ l) h = let a = h t in let b = total_few f m l h in let c : length (t ∷ l) * m ≡ length l * m + m = suc-mul
    (length l) m in omega arith

pub events_left_are_few : EventsLeftAreFew
events_left_are_few s past legal most few =
    let a = total_few (λ t. accesses_left s past t + 1) (most + 1) (live_ones past)
    (λ t. let h = few (call_of past t).procedure in omega arith) in
    let b = (limits_are_kept s past legal).1 in
    let c : length (live_ones past) * (most + 1) ≤ s.rules.limits.live * (most + 1) = mul-le-mul_right (most + 1) b in
    omega arith
