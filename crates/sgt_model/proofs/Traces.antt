-- From the law that a run at once is its trace to the law over a transaction's acts.
use Rattle.std.specs.Prelude.{◌≡◌, ℕ, zero, suc, ◌+◌, ◌≤◌, ℤ, true, ◌&&◌, cond, ◌⊎◌, List, [], ◌∷◌, ◌++◌, length, map, Option, Some, None}
use Rattle.std.proofs.Common.{refl, sym, ap, ap₂, ◌∙◌, subst, subst₂, inl, inr, arith, append_assoc, append-nil, length-append}
use Rattle.sgt_model.specs.declared.kind.Kind.{Kind}
use Rattle.sgt_model.specs.declared.kind.Kind.TheVariants.{Look, Store}
use Rattle.sgt_model.specs.Contents.{Key, key_eq, Contents, set_in}
use Rattle.sgt_model.specs.Runs.{Run, looks, puts, ends, raises, serial, Outcome, Done, Asked, same_reported, with_access, with_accesses}
use Rattle.sgt_model.specs.Traces.{Act, look, put, TraceEnding, ended, raising, next_of_ending, Trace, after_access, trace, Next, Looks, Puts, Ends, Raises, next_at, Finds, with_stores, GivesAt, RunIsTrace}
use Rattle.sgt_model.specs.Accesses.{Access, is_store}
use Rattle.sgt_model.specs.Progress.{if_look, values_read, requested, is_fit}
use Rattle.sgt_model.specs.declared.event.Request.{Request}
use Rattle.sgt_model.specs.declared.event.Request.TheVariants.{Read, Write}
use Rattle.std.specs.Ordering.{int_eq}
use Rattle.std.proofs.lemmas.Bool.Decides.{Decides-int_eq}
use Rattle.sgt_model.proofs.Effects.{Fits}
use Rattle.sgt_model.proofs.Stores.{found}
use Rattle.sgt_model.proofs.Acts.{requests_of, AsRequested, stored, over, FindsIn, ActsLaw, DoneWith, caller_access_by, caller_access_of, AllFit}

-- the law holds of each run
pub run_is_trace : (r : Run) → RunIsTrace r
run_is_trace (looks k go) m [] f = tt
run_is_trace (looks k go) m (v ∷ vs) f = subst (λ w. GivesAt (trace (go v) vs).ending (with_stores m (trace (go v) vs).accesses)
    (serial (go w) m)) f.0 (run_is_trace (go v) m vs f.1)
run_is_trace (puts k v rest) m vs f = run_is_trace rest (set_in m k v) vs f
run_is_trace (ends answers) m vs f = refl
run_is_trace (raises code) m vs f = refl

abbrev act_of : Kind → Key → Option ℤ → Act
act_of kind k v = cond (is_store kind) (put k v) (look k)

abbrev as_act : Access → Act
as_act a = act_of a.kind a.key a.value

-- oldest first
abbrev olds : List Access → List Act
olds [] = []
olds (a ∷ done) = olds done ++ as_act a ∷ []

abbrev pub left_by : Run → Access → Run
left_by (looks k go) a = go a.value
left_by (puts k v rest) a = rest
left_by (ends answers) a = ends answers
left_by (raises code) a = raises code

abbrev pub left : Run → List Access → Run
left r [] = r
left r (a ∷ done) = left_by (left r done) a

abbrev following : List Act → Trace → Trace
following xs t = record { accesses = xs ++ t.accesses; ending = t.ending }

abbrev pub next_of_run : Run → Next
next_of_run (looks k go) = Looks k
next_of_run (puts k v rest) = Puts k v
next_of_run (ends answers) = Ends answers
next_of_run (raises code) = Raises code

first_next : (r : Run) → next_at (trace r []) 0 ≡ next_of_run r
first_next (looks k go) = refl
first_next (puts k v rest) = refl
first_next (ends answers) = refl
first_next (raises code) = refl

next_following : (xs : List Act) (t : Trace) → next_at (following xs t) (length xs) ≡ next_at t 0
next_following [] t = refl
next_following (x ∷ xs) t = next_following xs t

length-olds : (done : List Access) → length (olds done) ≡ length done
length-olds [] = refl
length-olds (a ∷ done) = length-append (olds done) (as_act a ∷ []) ∙ (ap (λ n. n + 1) (length-olds done) ∙ omega arith)

trace_by : (r : Run) (a : Access) (ws : List (Option ℤ)) → Fits (next_of_run r) a
    → trace r (if_look a.kind a.value ++ ws) ≡ after_access (as_act a) (trace (left_by r a) ws)
trace_by (looks k go) a ws h =
    ap (λ kind. trace (looks k go) (if_look kind a.value ++ ws)) h.1
    ∙ ap₂ (λ j kind. after_access (act_of kind j a.value) (trace (go a.value) ws)) (sym h.0) (sym h.1)
trace_by (puts k v rest) a ws h =
    ap (λ kind. trace (puts k v rest) (if_look kind a.value ++ ws)) h.1
    ∙ (ap₂ (λ j w. after_access (act_of Store j w) (trace rest ws)) (sym h.0) (sym h.2)
    ∙ ap (λ kind. after_access (act_of kind a.key a.value) (trace rest ws)) (sym h.1))
trace_by (ends answers) a ws h = absurd h
trace_by (raises code) a ws h = absurd h

following_append : (xs : List Act) (x : Act) (t : Trace) → following xs (after_access x t) ≡ following (xs ++ x ∷ []) t
following_append xs x t = ap (λ (l : List Act). record { accesses = l; ending = t.ending }) (sym (append_assoc xs (x ∷ []) t.accesses))

next_left : (r : Run) (done : List Access) → trace r (values_read done ++ []) ≡ following (olds done) (trace (left r done) [])
    → next_at (trace r (values_read done)) (length done) ≡ next_of_run (left r done)
next_left r done e =
    ap₂ (requests_of r) (sym (append-nil (values_read done))) (sym (length-olds done))
    ∙ (ap (λ t. next_at t (length (olds done))) e
    ∙ (next_following (olds done) (trace (left r done) []) ∙ first_next (left r done)))

-- the trace over what the acts read begins with the acts
trace_left : (r : Run) (done : List Access) → AsRequested (requests_of r) done → (ws : List (Option ℤ))
    → trace r (values_read done ++ ws) ≡ following (olds done) (trace (left r done) ws)
trace_left r [] h ws = refl
trace_left r (a ∷ done) h ws =
    ap (λ vs. trace r vs) (append_assoc (values_read done) (if_look a.kind a.value) ws)
    ∙ (trace_left r done h.0 (if_look a.kind a.value ++ ws)
    ∙ (ap (λ t. following (olds done) t)
    (trace_by (left r done) a ws (subst (λ n. Fits n a) (next_left r done (trace_left r done h.0 [])) h.1))
    ∙ following_append (olds done) (as_act a) (trace (left_by (left r done) a) ws)))

-- a read, or a write of a value or of none
abbrev Shape : Access → Type 0
Shape a = (a.kind ≡ Look) ⊎ ((v : Option ℤ) × (a.kind ≡ Store) × (a.value ≡ v))

abbrev Shaped : List Access → Type 0
Shaped [] = Unit {0}
Shaped (a ∷ done) = Shaped done × Shape a

fits_shape : (n : Next) (a : Access) → Fits n a → Shape a
fits_shape (Looks k) a h = inl h.1
fits_shape (Puts k v) a h = inr (v, h.1, h.2)
fits_shape (Ends answers) a h = absurd h
fits_shape (Raises code) a h = absurd h

requested_shaped : (requested : List (Option ℤ) → ℕ → Next) (done : List Access) → AsRequested requested done → Shaped done
requested_shaped requested [] h = tt
requested_shaped requested (a ∷ done) h = (
  requested_shaped requested done h.0,
  fits_shape
      (requested (values_read done) (length done)) a h.1,
)

with_append : (m : Contents) (xs ys : List Act) → with_stores m (xs ++ ys) ≡ with_stores (with_stores m xs) ys
with_append m [] ys = refl
with_append m (look k ∷ xs) ys = with_append m xs ys
with_append m (put k v ∷ xs) ys = with_append (set_in m k v) xs ys

with_one : (m : Contents) (a : Access) (k : Key) → Shape a → with_stores m (as_act a ∷ []) k ≡ stored a k (m k)
with_one m a k (inl h) = ap (λ kind. with_stores m (act_of kind a.key a.value ∷ []) k) h
    ∙ ap (λ kind. cond (is_store kind && key_eq a.key k) a.value (m k)) (sym h)
with_one m a k (inr h) =
    ap₂ (λ kind w. with_stores m (act_of kind a.key w ∷ []) k) h.1 h.2
    ∙ ap₂ (λ kind w. cond (is_store kind && key_eq a.key k) w (m k)) (sym h.1) (sym h.2)

with_over : (m : Contents) (done : List Access) → Shaped done → (k : Key) → with_stores m (olds done) k ≡ over m done k
with_over m [] sh k = refl
with_over m (a ∷ done) sh k =
    ap (λ f. f k) (with_append m (olds done) (as_act a ∷ []))
    ∙ (with_one (with_stores m (olds done)) a k sh.1 ∙ ap (λ v. stored a k v) (with_over m done sh.0 k))

finds_one : (m : Contents) (a : Access) (ys : List Act) (ws : List (Option ℤ)) → Shape a → (a.kind ≡ Look → a.value ≡ m a.key)
    → Finds (with_stores m (as_act a ∷ [])) ys ws → Finds m (as_act a ∷ ys) (if_look a.kind a.value ++ ws)
finds_one m a ys ws (inl h) found = subst (λ kind. Finds (with_stores m (act_of kind a.key a.value ∷ [])) ys ws
    → Finds m (act_of kind a.key a.value ∷ ys) (if_look kind a.value ++ ws)) (sym h) (λ g. (found h, g))
finds_one m a ys ws (inr h) found = subst (λ kind. Finds (with_stores m (act_of kind a.key a.value ∷ [])) ys ws
    → Finds m (act_of kind a.key a.value ∷ ys) (if_look kind a.value ++ ws)) (sym h.1) (λ g. g)

finds_left : (m : Contents) (done : List Access) → Shaped done → FindsIn m done → (ys : List Act) (ws : List (Option ℤ))
    → Finds (with_stores m (olds done)) ys ws → Finds m (olds done ++ ys) (values_read done ++ ws)
finds_left m [] sh f ys ws g = g
finds_left m (a ∷ done) sh f ys ws g =
    let found : a.kind ≡ Look → a.value ≡ with_stores m (olds done) a.key = λ h. f.1 h ∙ sym (with_over m done sh.0 a.key) in
    let one = finds_one (with_stores m (olds done)) a ys ws sh.1 found
    (subst (λ n. Finds n ys ws) (with_append m (olds done) (as_act a ∷ [])) g) in
    subst₂ (λ xs vs. Finds m xs vs) (sym (append_assoc (olds done) (as_act a ∷ []) ys))
    (sym (append_assoc (values_read done) (if_look a.kind a.value) ws)) (finds_left m done sh.0 f.0 (as_act a ∷ ys)
    (if_look a.kind a.value ++ ws) one)

abbrev over_with : List Access → TraceEnding → Trace
over_with done e = record { accesses = olds done; ending = e }

ended_trace : (r : Run) (answers : List ℤ) → next_of_run r ≡ Ends answers → trace r [] ≡ over_with [] (ended answers)
ended_trace (looks k go) answers h = absurd (cc h)
ended_trace (puts k v rest) answers h = absurd (cc h)
ended_trace (ends given) answers h = let e : given ≡ answers = cc h in ap (λ l. over_with [] (ended l)) e
ended_trace (raises code) answers h = absurd (cc h)

raising_trace : (r : Run) (code : ℕ) → next_of_run r ≡ Raises code → trace r [] ≡ over_with [] (raising code)
raising_trace (looks k go) code h = absurd (cc h)
raising_trace (puts k v rest) code h = absurd (cc h)
raising_trace (ends given) code h = absurd (cc h)
raising_trace (raises given) code h = let e : given ≡ code = cc h in ap (λ c. over_with [] (raising c)) e

whole_trace : (r : Run) (done : List Access) (e : TraceEnding) → AsRequested (requests_of r) done → trace (left r done) [] ≡ over_with [] e
    → trace r (values_read done) ≡ over_with done e
whole_trace r done e h g =
    ap (λ vs. trace r vs) (sym (append-nil (values_read done)))
    ∙ (trace_left r done h []
    ∙ (ap (λ t. following (olds done) t) g
    ∙ ap (λ (l : List Act). record { accesses = l; ending = e }) (append-nil (olds done))))

gives : (r : Run) → RunIsTrace r → (m : Contents) (done : List Access) (e : TraceEnding) → AsRequested (requests_of r) done → FindsIn m done
    → trace (left r done) [] ≡ over_with [] e → GivesAt e (with_stores m (olds done)) (serial r m)
gives r law m done e h f g =
    let found : Finds m (olds done) (values_read done) = subst₂ (λ xs vs. Finds m xs vs) (append-nil (olds done))
    (append-nil (values_read done)) (finds_left m done (requested_shaped (requests_of r) done h) f [] [] tt) in
    let P : Trace → Type 0 = λ t. Finds m t.accesses (values_read done) → GivesAt t.ending (with_stores m t.accesses) (serial r m) in
    (subst P (whole_trace r done e h g) (law m (values_read done))) found

pub left_next : (r : Run) (done : List Access) → AsRequested (requests_of r) done
    → next_at (trace r (values_read done)) (length done) ≡ next_of_run
    (left r done)
left_next r done h = next_left r done (trace_left r done h [])

pub law_over_acts : (r : Run) → RunIsTrace r → ActsLaw r
law_over_acts r law = record {
  done = λ m done answers h f e. (
    with_stores m (olds done),
    gives r law m done (ended answers) h f
        (ended_trace (left r done) answers (sym (left_next r done h) ∙ e)),
    with_over m done (requested_shaped (requests_of r) done h),
  );
  raised = λ m done code h f e. gives r law m done (raising code) h f (raising_trace (left r done) code (sym (left_next r done h) ∙ e));
}

-- ---- past its end

pub values_append : (more own : List Access) → values_read (more ++ own) ≡ values_read own ++ values_read more
values_append [] own = sym (append-nil (values_read own))
values_append (a ∷ more) own =
    ap (λ l. l ++ if_look a.kind a.value) (values_append more own)
    ∙ append_assoc (values_read own) (values_read more) (if_look a.kind a.value)

-- past its accesses a trace has its ending next
next_past : (xs : List Act) (e : TraceEnding) (n : ℕ) → length xs ≤ n → next_at (following xs (over_with [] e)) n ≡ next_of_ending e
next_past [] e zero h = refl
next_past [] e (suc n) h = refl
next_past (x ∷ xs) e zero h = absurd (omega arith)
next_past (x ∷ xs) e (suc n) h = next_past xs e n (omega arith)

at_end_trace : (r : Run) (answers : List ℤ) (ws : List (Option ℤ)) → next_of_run r ≡ Ends answers → trace r ws
    ≡ over_with [] (ended answers)
at_end_trace (looks k go) answers ws h = absurd (cc h)
at_end_trace (puts k v rest) answers ws h = absurd (cc h)
at_end_trace (ends given) answers ws h = let e : given ≡ answers = cc h in ap (λ l. over_with [] (ended l)) e
at_end_trace (raises code) answers ws h = absurd (cc h)

-- a run that is at its end stays there, whatever further accesses are made
pub past_end : (r : Run) (own : List Access) (answers : List ℤ) → AsRequested (requests_of r) own
    → requests_of r (values_read own) (length own) ≡ Ends answers → (more : List Access)
    → requests_of r (values_read (more ++ own)) (length (more ++ own)) ≡ Ends answers
past_end r own answers h e more =
    let is_end : next_of_run (left r own) ≡ Ends answers = sym (left_next r own h) ∙ e in
    let whole : trace r (values_read own ++ values_read more) ≡ following (olds own) (over_with [] (ended answers)) =
    trace_left r own h (values_read more) ∙ ap (λ t. following (olds own) t)
    (at_end_trace (left r own) answers (values_read more) is_end) in
    let long = length-append more own in
    let same = length-olds own in
    let few : length (olds own) ≤ length (more ++ own) = omega arith in
    ap (λ vs. next_at (trace r vs) (length (more ++ own))) (values_append more own)
    ∙ (ap (λ t. next_at t (length (more ++ own))) whole
    ∙ next_past (olds own) (ended answers) (length (more ++ own)) few)

-- what a caller requested after the end of a run at once, on the contents so far

int_same : (v : ℤ) → int_eq v v ≡ true
int_same v = (Decides-int_eq v v).1 refl

reported_same : (v w : Option ℤ) → v ≡ w → same_reported v w ≡ true
reported_same None None e = refl
reported_same None (Some w) e = absurd (cc e)
reported_same (Some v) None e = absurd (cc e)
reported_same (Some v) (Some w) e = subst (λ x. same_reported (Some v) x ≡ true) e (int_same v)

one_done : (m : Contents) (a : Access) (l : List Access) (o : Outcome) (answers : List ℤ) (d : Request) → is_fit d ≡ true
    → Fits (requested d) a → (a.kind ≡ Look → a.value ≡ over m l a.key) → DoneWith o answers (over m l)
    → DoneWith (with_access (caller_access_of a) o) answers (over m (a ∷ l))
one_done m a l o answers (Read k) fit fits found (last, is, same) =
    let v : a.value ≡ last a.key = found fits.1 ∙ sym (same a.key) in (
      last,
      ap₂ (λ kind r. with_access (caller_access_by kind a.key a.value) r) fits.1 is
          ∙ ap (λ b. cond b (Done answers last) (Asked 0)) (reported_same a.value (last a.key) v),
      λ j. same j ∙ ap (λ kind. cond (is_store kind && key_eq a.key j) a.value (over m l j)) (sym fits.1),
    )
one_done m a l o answers (Write k w) fit fits found (last, is, same) = (
  set_in last a.key w,
  ap₂ (λ kind r. with_access (caller_access_by kind a.key a.value) r) fits.1 is
      ∙ (ap (λ x. with_access (caller_access_by Store a.key x) (Done answers last)) fits.2
      ∙ ap (λ b. cond b (Done answers (set_in last a.key w)) (Asked 0)) fit),
  λ j. ap (λ x. cond (key_eq a.key j) w x) (same j)
      ∙ ap₂ (λ kind x. cond (is_store kind && key_eq a.key j) x (over m l j)) (sym fits.1) (sym fits.2),
)

pub gone_done : (m : Contents) (own more : List Access) (o : Outcome) (answers : List ℤ) → AllFit more → FindsIn m (more ++ own)
    → DoneWith o answers (over m own) → DoneWith (with_accesses (map caller_access_of more) o) answers (over m (more ++ own))
gone_done m own [] o answers fit f d = d
gone_done m own (a ∷ more) o answers fit f d = one_done m a (more ++ own) (with_accesses (map caller_access_of more) o) answers
    fit.1.0 fit.1.1 fit.1.2 f.1
    (gone_done m own more o answers fit.0 f.0 d)

pub finds_own : (m : Contents) (more own : List Access) → FindsIn m (more ++ own) → FindsIn m own
finds_own m [] own f = f
finds_own m (a ∷ more) own f = finds_own m more own f.0
