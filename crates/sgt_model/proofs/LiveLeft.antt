-- In a legal history the remainder of a transaction is what its call's run has still to do.
use Rattle.std.specs.Prelude.{◌≡◌, ℕ, suc, ◌≤◌, ℤ, List, [], ◌∷◌, ◌++◌, length, Option, Some, None}
use Rattle.std.proofs.Common.{refl, sym, ap, ◌∙◌, subst, inl, inr, arith, append-nil, length-append}
use Rattle.sgt_model.specs.declared.kind.Kind.TheVariants.{Look, Store}
use Rattle.sgt_model.specs.declared.entry.Entry.{Entry}
use Rattle.sgt_model.specs.Contents.{Key}
use Rattle.sgt_model.specs.Syntax.{ProcedureText}
use Rattle.sgt_model.specs.Runs.{Run, CallerAccess}
use Rattle.sgt_model.specs.Traces.{Used, trace, Next, Looks, Puts, Ends, Raises, next_at}
use Rattle.sgt_model.specs.Left.{Left, next_left, after_look, after_store, left_after}
use Rattle.sgt_model.specs.Accesses.{Access, acts}
use Rattle.sgt_model.specs.Configurations.{Configuration, run_if}
use Rattle.sgt_model.specs.Progress.{Call, call_of, caller_accesses, if_look, values_read, reads, made, next_of}
use Rattle.sgt_model.specs.Legality.{Legal}
use Rattle.sgt_model.specs.LiveLeft.{left_if, left_of_call, left_of}
use Rattle.sgt_model.proofs.Effects.{Fits}
use Rattle.sgt_model.proofs.Acts.{requests_of, AsRequested, PlayedOn}
use Rattle.sgt_model.proofs.Traces.{values_append, past_end}
use Rattle.sgt_model.proofs.Uses.{used_look-suc, used_store-suc}
use Rattle.sgt_model.proofs.Plays.{only_own, plays}
use Rattle.sgt_model.proofs.LeftRuns.{run_left, next_after, look_after, store_after, left_past, end_looked, end_stored}

-- the remainder of a call after these accesses, newest first
abbrev pub left_by : Configuration → Call → List Access → Left
left_by s c all = left_after (left_of_call s.rules c) (values_read all) (length all)

-- accesses that the run wanted use the values that they read

one_used : (r : Run) (done : List Access) (a : Access) (n : Next) → next_at (trace r (values_read done)) (length done) ≡ n → Fits n a
    → Used r (values_read done) (length done) → Used r (values_read done ++ if_look a.kind a.value) (suc (length done))
one_used r done a (Looks k) next fits used = subst (λ kind. Used r (values_read done ++ if_look kind a.value) (suc (length done)))
    (sym fits.1) (used_look-suc r (values_read done) (length done) k a.value used next)
one_used r done a (Puts k v) next fits used = subst (λ kind. Used r (values_read done ++ if_look kind a.value) (suc (length done)))
    (sym fits.1) (subst (λ l. Used r l (suc (length done))) (sym (append-nil (values_read done)))
    (used_store-suc r (values_read done) (length done) k v used next))
one_used r done a (Ends answers) next fits used = absurd fits
one_used r done a (Raises code) next fits used = absurd fits

all_used : (r : Run) (done : List Access) → AsRequested (requests_of r) done → Used r (values_read done) (length done)
all_used r [] h = tt
all_used r (a ∷ done) h = one_used r done a (next_at (trace r (values_read done)) (length done)) refl h.1 (all_used r done h.0)

-- the remainder at the start is the whole run

run_at_start : (p : Option ProcedureText) (args : List ℤ) → run_left (left_if p args) ≡ run_if p args
run_at_start None args = refl
run_at_start (Some p) args = refl

-- the remainder of a procedure goes on as its run does
module _ (p : Option ProcedureText) (args : List ℤ) (values : List (Option ℤ)) (made : ℕ) (used : Used (run_if p args) values made) where
  pub next_if : next_left (left_after (left_if p args) values made) ≡ next_at (trace (run_if p args) values) made
  next_if = next_after made (run_if p args) (left_if p args) values (run_at_start p args) used

  pub looked_if : (key : Key) (found : Option ℤ) → next_at (trace (run_if p args) values) made ≡ Looks key
      → left_after (left_if p args) (values ++ found ∷ []) (suc made) ≡ after_look found (left_after (left_if p args) values made)
  looked_if key found next = look_after made (run_if p args) (left_if p args) values (run_at_start p args) used key found (next_if ∙ next)

  pub stored_if : (key : Key) (v : Option ℤ) → next_at (trace (run_if p args) values) made ≡ Puts key v
      → left_after (left_if p args) values (suc made) ≡ after_store (left_after (left_if p args) values made)
  stored_if key v next = store_after made (run_if p args) (left_if p args) values (run_at_start p args) used key v (next_if ∙ next)

-- so it does for a transaction whose caller requests accesses after the end
module _ (p : Option ProcedureText) (args : List ℤ) (xs : List CallerAccess) (all : List Access) (h : PlayedOn (run_if p args) xs all) where
  own_used : Used (run_if p args) (values_read h.own) (length h.own)
  own_used = all_used (run_if p args) h.own h.as_requested

  own_next : next_left (left_after (left_if p args) (values_read h.own) (length h.own)) ≡ next_at (trace (run_if p args)
      (values_read h.own)) (length h.own)
  own_next = next_if p args (values_read h.own) (length h.own) own_used

  -- past the end the remainder is the one at the end
  past_own : (answers : List ℤ) → requests_of (run_if p args) (values_read h.own) (length h.own) ≡ Ends answers → (more : List Access)
      → left_after (left_if p args) (values_read (more ++ h.own)) (length (more ++ h.own))
      ≡ left_after (left_if p args) (values_read h.own) (length h.own)
  past_own answers e more =
      let long = length-append more h.own in
      let few : length h.own ≤ length (more ++ h.own) = omega arith in
      ap (λ vs. left_after (left_if p args) vs (length (more ++ h.own))) (values_append more h.own)
      ∙ left_past (length h.own) (length (more ++ h.own)) (run_if p args) (left_if p args) (values_read h.own) (values_read more)
      answers few
      (run_at_start p args) own_used (own_next ∙ e)

  -- all are the run's own, or the end has come
  left_own : left_after (left_if p args) (values_read all) (length all) ≡ left_after (left_if p args) (values_read h.own) (length h.own)
  left_own = ap (λ l. left_after (left_if p args) (values_read l) (length l)) h.all_are ∙ elim h.at_end [
    | inl none ↦ ap (λ m. left_after (left_if p args) (values_read (m ++ h.own)) (length (m ++ h.own))) none
    | inr end ↦ past_own end.0 end.1 h.more
  ]

  requests_own : requests_of (run_if p args) (values_read all) (length all) ≡ requests_of (run_if p args) (values_read h.own) (length h.own)
  requests_own = ap (λ l. requests_of (run_if p args) (values_read l) (length l)) h.all_are ∙ elim h.at_end [
    | inl none ↦ ap (λ m. requests_of (run_if p args) (values_read (m ++ h.own)) (length (m ++ h.own))) none
    | inr end ↦ past_end (run_if p args) h.own end.0 h.as_requested end.1 h.more ∙ sym end.1
  ]

  pub next_played : next_left (left_after (left_if p args) (values_read all) (length all))
      ≡ requests_of (run_if p args) (values_read all) (length all)
  next_played = ap next_left left_own ∙ (own_next ∙ sym requests_own)

  pub looked_played : (key : Key) (found : Option ℤ) → requests_of (run_if p args) (values_read all) (length all) ≡ Looks key
      → left_after (left_if p args) (values_read all ++ found ∷ []) (suc (length all)) ≡ after_look found
      (left_after (left_if p args) (values_read all) (length all))
  looked_played key found next =
      let only = only_own (run_if p args) xs all h (λ answers e. cc (sym next ∙ e)) in
      subst (λ l. left_after (left_if p args) (values_read l ++ found ∷ []) (suc (length l)) ≡ after_look found
      (left_after (left_if p args) (values_read l) (length l))) (sym only.1)
      (looked_if p args (values_read h.own) (length h.own) own_used key found (sym requests_own ∙ next))

  pub stored_played : (key : Key) (v : Option ℤ) → requests_of (run_if p args) (values_read all) (length all) ≡ Puts key v
      → left_after (left_if p args) (values_read all) (suc (length all))
      ≡ after_store (left_after (left_if p args) (values_read all) (length all))
  stored_played key v next =
      let only = only_own (run_if p args) xs all h (λ answers e. cc (sym next ∙ e)) in
      subst (λ l. left_after (left_if p args) (values_read l) (suc (length l)) ≡ after_store
      (left_after (left_if p args) (values_read l) (length l))) (sym only.1)
      (stored_if p args (values_read h.own) (length h.own) own_used key v (sym requests_own ∙ next))

  -- an access that the caller requests leaves the remainder
  pub request_played : (answers : List ℤ) → requests_of (run_if p args) (values_read all) (length all) ≡ Ends answers → (a : Access)
      → left_after (left_if p args) (values_read (a ∷ all)) (length (a ∷ all)) ≡ left_after (left_if p args) (values_read all) (length all)
  request_played answers e a =
      ap (λ l. left_after (left_if p args) (values_read (a ∷ l)) (length (a ∷ l))) h.all_are
      ∙ (past_own answers (sym requests_own ∙ e) (a ∷ h.more) ∙ sym left_own)

-- so it is in a legal history
module _ (s : Configuration) (past : List Entry) (h : Legal s past) (t : ℕ) where
  pub next_is_left : next_left (left_of s.rules past t) ≡ next_of s past t
  next_is_left = next_played (s.rules.procedures (call_of past t).procedure) (call_of past t).args (caller_accesses past t)
      (acts past t) (plays s past t h)

  pub left_looked : (key : Key) (found : Option ℤ) → next_of s past t ≡ Looks key
      → left_after (left_of_call s.rules (call_of past t)) (reads past t ++ found ∷ []) (suc (made past t)) ≡ after_look found
      (left_of s.rules past t)
  left_looked = looked_played (s.rules.procedures (call_of past t).procedure) (call_of past t).args (caller_accesses past t) (acts past t)
      (plays s past t h)

  pub left_stored : (key : Key) (v : Option ℤ) → next_of s past t ≡ Puts key v → left_after (left_of_call s.rules (call_of past t))
      (reads past t) (suc (made past t)) ≡ after_store (left_of s.rules past t)
  left_stored = stored_played (s.rules.procedures (call_of past t).procedure) (call_of past t).args (caller_accesses past t) (acts past t)
      (plays s past t h)

  request_left : (answers : List ℤ) → next_of s past t ≡ Ends answers → (a : Access)
      → left_by s (call_of past t) (a ∷ acts past t) ≡ left_of s.rules past t
  request_left = request_played (s.rules.procedures (call_of past t).procedure) (call_of past t).args (caller_accesses past t) (acts past t)
      (plays s past t h)

  -- a further read, and a further write
  pub request_looked : (answers : List ℤ) (k : Key) (found : Option ℤ) → next_of s past t ≡ Ends answers
      → left_after (left_of_call s.rules (call_of past t)) (reads past t ++ found ∷ []) (suc (made past t)) ≡ after_look found
      (left_of s.rules past t)
  request_looked answers k found e = request_left answers e (record { by = t; key = k; kind = Look; value = found })
      ∙ sym (end_looked found (left_of s.rules past t) answers (next_is_left ∙ e))

  pub request_stored : (answers : List ℤ) (k : Key) (v : Option ℤ) → next_of s past t ≡ Ends answers
      → left_after (left_of_call s.rules (call_of past t)) (reads past t) (suc (made past t)) ≡ after_store (left_of s.rules past t)
  request_stored answers k v e =
      ap (λ vs. left_after (left_of_call s.rules (call_of past t)) vs (suc (made past t))) (sym (append-nil (reads past t)))
      ∙ (request_left answers e (record { by = t; key = k; kind = Store; value = v })
      ∙ sym (end_stored (left_of s.rules past t) answers (next_is_left ∙ e)))
