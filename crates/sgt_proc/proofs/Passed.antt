-- What comes next in a trace, after the accesses that a cursor has passed.
use Rattle.std.specs.Prelude.{◌≡◌, ℕ, zero, suc, ◌+◌, ◌<◌, ◌≤◌, ℤ, List, [], ◌∷◌, ◌++◌, length, take, drop, get_or, Option}
use Rattle.std.proofs.Common.{refl, sym, ap, ◌∙◌, subst, arith}
use Rattle.std.proofs.lemmas.List.{take-append-drop, take_more, drop_all}
use Rattle.sgt_model.specs.Contents.{Key}
use Rattle.sgt_model.specs.Syntax.{ProcedureText}
use Rattle.sgt_model.specs.Runs.{Run, looks, puts, ends, raises}
use Rattle.sgt_model.specs.Meaning.{run_with}
use Rattle.sgt_model.specs.Traces.{Used, Next, Looks, Puts, Ends, Raises, trace, next_at}
use Rattle.sgt_model.specs.Left.{Left, left, next_left, after_look, after_store}
use Rattle.sgt_model.proofs.Uses.{used_look-suc, used_store-suc}
use Rattle.sgt_model.proofs.LeftRuns.{next_is_of_left, left_after_look, left_after_store}

-- if more values follow, what comes next is the same

next_more : (r : Run) (vs more : List (Option ℤ)) (made : ℕ) → Used r vs made
    → next_at (trace r (vs ++ more)) made ≡ next_at (trace r vs) made
next_more (looks k go) [] [] zero used = refl
next_more (looks k go) [] (m ∷ more) zero used = refl
next_more (looks k go) (v ∷ vs) more zero used = absurd used
next_more (looks k go) [] more (suc made) used = absurd used
next_more (looks k go) (v ∷ vs) more (suc made) used = next_more (go v) vs more made used
next_more (puts k w rest) vs more zero used = refl
next_more (puts k w rest) vs more (suc made) used = next_more rest vs more made used
next_more (ends answers) vs more zero used = refl
next_more (ends answers) vs more (suc made) used = absurd used
next_more (raises code) vs more zero used = refl
next_more (raises code) vs more (suc made) used = absurd used

-- and it stays the same if no access can be made: at the end, at a code, and at a read without a value left

abbrev pub Stays : List (Option ℤ) → Next → Type 0
Stays more (Looks k) = more ≡ []
Stays more (Puts k x) = ⊥
Stays more (Ends answers) = Unit {0}
Stays more (Raises code) = Unit {0}

next_stays : (r : Run) (vs more : List (Option ℤ)) (made later : ℕ) → Used r vs made → Stays more (next_at (trace r vs) made) → made ≤ later
    → next_at (trace r (vs ++ more)) later ≡ next_at (trace r vs) made
next_stays (looks k go) [] [] zero zero used stays within = refl
next_stays (looks k go) [] [] zero (suc later) used stays within = refl
next_stays (looks k go) [] (m ∷ more) zero later used stays within = cc
next_stays (looks k go) (v ∷ vs) more zero later used stays within = absurd used
next_stays (looks k go) [] more (suc made) later used stays within = absurd used
next_stays (looks k go) (v ∷ vs) more (suc made) zero used stays within = absurd (omega arith)
next_stays (looks k go) (v ∷ vs) more (suc made) (suc later) used stays within =
    next_stays (go v) vs more made later used stays (omega arith)
next_stays (puts k w rest) [] more zero later used stays within = absurd stays
next_stays (puts k w rest) (v ∷ vs) more zero later used stays within = absurd used
next_stays (puts k w rest) vs more (suc made) zero used stays within = absurd (omega arith)
next_stays (puts k w rest) vs more (suc made) (suc later) used stays within =
    next_stays rest vs more made later used stays (omega arith)
next_stays (ends answers) vs more zero zero used stays within = refl
next_stays (ends answers) vs more zero (suc later) used stays within = refl
next_stays (ends answers) vs more (suc made) later used stays within = absurd used
next_stays (raises code) vs more zero zero used stays within = refl
next_stays (raises code) vs more zero (suc later) used stays within = refl
next_stays (raises code) vs more (suc made) later used stays within = absurd used

-- a cursor has passed this many accesses, whose reads returned this many of the values
pub record HasPassed (p : ProcedureText) (args : List ℤ) (read : List (Option ℤ)) (used made : ℕ) (w : ProcedureText × Left) : Type 0 where
  pub few : used ≤ length read
  pub done : Used (run_with p args) (take used read) made
  pub same : w ≡ (p, left p args (take used read) made)

module _ (p : ProcedureText) (args : List ℤ) (read : List (Option ℤ)) (used made : ℕ) (w : ProcedureText × Left)
    (passed : HasPassed p args read used made w) where
  left_next : (n : Next) → n ≡ next_left w.1 → next_left (left p args (take used read) made) ≡ n
  left_next n reported = ap (λ (v : ProcedureText × Left). next_left v.1) (sym passed.same) ∙ sym reported

  trace_next : (n : Next) → n ≡ next_left w.1 → next_at (trace (run_with p args) (take used read)) made ≡ n
  trace_next n reported = sym (next_is_of_left p args (take used read) made passed.done) ∙ left_next n reported

  one : suc made ≡ made + 1
  one = omega arith

  -- one more read
  pub look_passed : (k : Key) (other : Option ℤ) → Looks k ≡ next_left w.1 → used < length read
      → HasPassed p args read (used + 1) (made + 1) (w.0, after_look (get_or read used other) w.1)
  look_passed k other reported within = record {
    few = omega (arith, within);
    done = subst (λ vs. Used (run_with p args) vs (made + 1)) (sym more) (subst (Used (run_with p args) (take used read ++ found ∷ [])) one
        (used_look-suc (run_with p args) (take used read) made k found passed.done (trace_next (Looks k) reported)));
    same = ap (λ (v : ProcedureText × Left). (v.0, after_look found v.1)) passed.same
        ∙ ap (λ l. (p, l)) (sym (left_after_look p args (take used read) made passed.done k found (left_next (Looks k) reported))
        ∙ ap (λ vs. left p args vs (made + 1)) (sym more));
  } where
    found : Option ℤ
    found = get_or read used other

    more : take (used + 1) read ≡ take used read ++ found ∷ []
    more = take_more read used other within

  -- one more write
  pub store_passed : (k : Key) (x : Option ℤ) → Puts k x ≡ next_left w.1 → HasPassed p args read used (made + 1) (w.0, after_store w.1)
  store_passed k x reported = record {
    few = passed.few;
    done = subst (Used (run_with p args) (take used read)) one
        (used_store-suc (run_with p args) (take used read) made k x passed.done (trace_next (Puts k x) reported));
    same = ap (λ (v : ProcedureText × Left). (v.0, after_store v.1)) passed.same
        ∙ ap (λ l. (p, l)) (sym (left_after_store p args (take used read) made passed.done k x (left_next (Puts k x) reported)));
  }

  whole : take used read ++ drop used read ≡ read
  whole = take-append-drop used read

  -- all are passed
  pub next_following : (n : Next) → n ≡ next_left w.1 → n ≡ next_at (trace (run_with p args) read) made
  next_following n reported = sym (ap (λ vs. next_at (trace (run_with p args) vs) made) (sym whole)
      ∙ (next_more (run_with p args) (take used read) (drop used read) made passed.done ∙ trace_next n reported))

  -- no more can be passed
  pub next_stays_on : (n : Next) (later : ℕ) → n ≡ next_left w.1 → Stays (drop used read) n → made ≤ later
      → n ≡ next_at (trace (run_with p args) read) later
  next_stays_on n later reported stays within = sym (ap (λ vs. next_at (trace (run_with p args) vs) later) (sym whole)
      ∙ (next_stays (run_with p args) (take used read) (drop used read) made later passed.done
      (subst (Stays (drop used read)) (sym (trace_next n reported)) stays) within ∙ trace_next n reported))

  -- the read without a value left
  pub look_stays : (k : Key) (later : ℕ) → Looks k ≡ next_left w.1 → length read ≤ used → made ≤ later
      → Looks k ≡ next_at (trace (run_with p args) read) later
  look_stays k later reported none within = next_stays_on (Looks k) later reported (drop_all used read none) within
