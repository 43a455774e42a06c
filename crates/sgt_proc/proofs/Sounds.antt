-- A procedure without a flaw never goes wrong.
use Rattle.std.proofs.Common.{◌≡◌, refl, sym, ◌∙◌, subst, inl, inr, ℕ, ◌+◌, ◌<◌, ◌≤◌, ℤ, Bool, true, false, not, ◌&&◌, ◌||◌, cond, List, [], ◌∷◌, ◌++◌, length, get_or, set, max, Option, Some, None, arith, length-append, IsTrue}
use Rattle.std.specs.Prelude.{nat_eq, nat_lt, nat_le, slice_get, slice_set, slice_index_or, pos, ◌+ℤ◌, ◌-ℤ◌, ◌*ℤ◌, int_div, All}
use Rattle.std.specs.Ordering.{int_eq}
use Rattle.std.proofs.lemmas.Bool.{eq-eqb, or_left, or_right, or_parts, and_from}
use Rattle.std.proofs.lemmas.Bool.Decides.{eqb_tells, nat_tests}
use Rattle.std.proofs.lemmas.List.{get_or-set_same, get_or-set_other}
use Rattle.std.proofs.lemmas.List.Elements.{All-append, All-cons, All-nil, All-get_or}
use Rattle.std.proofs.lemmas.Option.{slice_get-get_or}
use Rattle.std.proofs.Math.ListN.{length-set}
use Rattle.sgt_model.specs.Numbers.{IsValue, is_value}
use Rattle.sgt_model.specs.Contents.{Key}
use Rattle.sgt_model.specs.Syntax.{ExprText, num, arg, reg, sum, diff, product, quotient, CondText, less, at_most, equal, ProcedureText}
use Rattle.sgt_model.specs.Ways.{Way, onto}
use Rattle.sgt_model.specs.Ways as way
use Rattle.sgt_model.specs.Runs.{Run, looks, puts}
use Rattle.sgt_model.specs.Meaning.{Got, is, over, missing, got, bounded, divided, both, Registers, fresh, value_of, Truth, holds, too_far, unknown, compared, truth_of, with_value, with_condition, with_key, with_stored, if_found, found_or, with_capacity, run}
use Rattle.sgt_proc.specs.declared.flaw.Flaw.{Flaw}
use Rattle.sgt_proc.specs.declared.flaw.Flaw.TheVariants.{HighRegister, UnsetRegister, NoArgument, HighTable, TooLong, TooDeep, ManyAnswers, BadCode, ManyArguments, BadLiteral}
use Rattle.sgt_proc.specs.declared.numbers.Number.{Number}
use Rattle.sgt_proc.specs.declared.numbers.Number.TheVariants.{Register, Argument, Table, Code, Literal}
use Rattle.sgt_proc.specs.Flaws.{in_expr, in_cond, in_block, uses, cond_uses, uses_unset, most_answers, IsFlawless}
use Rattle.sgt_proc.specs.NumberFlaws.{is_bad}
use Rattle.sgt_proc.specs.Sound.{IsValueOrNone, IsSound, FlawlessIsSound}
use Rattle.sgt_proc.proofs.Clean.{in_way, in_onto, in_nothing, value_from, allowed_number}

-- a number, if there is one, is a value
abbrev IsFine : Got → Type 0
IsFine (is v) = IsValue v
IsFine over = Unit {0}
IsFine missing = ⊥

abbrev IsKnown : Truth → Type 0
IsKnown (holds b) = Unit {0}
IsKnown too_far = Unit {0}
IsKnown unknown = ⊥

bounded_if : (v : ℤ) (b : Bool) → is_value v ≡ b → IsFine (cond b (is v) over)
bounded_if v true e = value_from v e
bounded_if v false e = tt

bounded_fine : (v : ℤ) → IsFine (bounded v)
bounded_fine v = bounded_if v (is_value v) refl

divided_if : (v : ℤ) (none : Bool) → IsFine (cond none over (bounded v))
divided_if v true = tt
divided_if v false = bounded_fine v

divided_fine : (x y : ℤ) → IsFine (divided x y)
divided_fine x y = divided_if (int_div x y) (int_eq y (pos 0))

both_fine : (op : ℤ → ℤ → Got) → ((x y : ℤ) → IsFine (op x y)) → (g h : Got) → IsFine g → IsFine h → IsFine (both (λ x y. op x y) g h)
both_fine op fine (is a) (is b) f f' = fine a b
both_fine op fine (is a) over f f' = tt
both_fine op fine (is a) missing f f' = absurd f'
both_fine op fine over h f f' = tt
both_fine op fine missing h f f' = absurd f

compared_known : (op : ℤ → ℤ → Bool) (g h : Got) → IsFine g → IsFine h → IsKnown (compared op g h)
compared_known op (is a) (is b) f f' = tt
compared_known op (is a) over f f' = tt
compared_known op (is a) missing f f' = absurd f'
compared_known op over h f f' = tt
compared_known op missing h f f' = absurd f

-- a register that is set, to a value
abbrev IsSomeValue : Option ℤ → Type 0
IsSomeValue None = ⊥
IsSomeValue (Some v) = IsValue v

got_fine : (o : Option ℤ) → IsSomeValue o → IsFine (got o)
got_fine None h = absurd h
got_fine (Some v) h = h

-- the registers that are so hold values
abbrev AreAssigned : (ℕ → Bool) → Registers → Type 0
AreAssigned so regs = (r : ℕ) → r < 16 → so r ≡ true → IsSomeValue (slice_index_or regs r None)

assigned_next : (so : ℕ → Bool) (regs : Registers) (to : ℕ) (v : ℤ) → length regs ≡ 16 → to < 16 → IsValue v
    → AreAssigned (λ r. not (nat_eq to r) && so r) regs → AreAssigned so (slice_set regs to (Some v))
assigned_next so regs to v l f g assigned r h e = elim (eqb_tells to r) [
  | inl p ↦ subst (λ x. IsSomeValue (get_or (set regs to (Some v)) x None)) p.1
      (subst IsSomeValue (sym (get_or-set_same regs to (Some v) None (omega arith))) g)
  | inr p ↦ subst IsSomeValue (sym (get_or-set_other regs to r (Some v) None (λ q. p.1 (sym q))))
      (assigned r h (and_from (not (nat_eq to r)) (so r) (rw p.0 refl) e))
]

length_next : (regs : Registers) (to : ℕ) (v : ℤ) → length regs ≡ 16 → length (slice_set regs to (Some v)) ≡ 16
length_next regs to v e = length-set regs to (Some v) ∙ e

with_value_sound : (g : Got) (f : ℤ → Run) → IsFine g → ((v : ℤ) → IsValue v → IsSound (f v)) → IsSound (with_value g f)
with_value_sound (is v) f h s = s v h
with_value_sound over f h s = (omega arith, omega arith)
with_value_sound missing f h s = absurd h

with_test_sound : (h : Truth) (f g : Run) → IsKnown h → IsSound f → IsSound g → IsSound (with_condition h f g)
with_test_sound (holds true) f g h s s' = s
with_test_sound (holds false) f g h s s' = s'
with_test_sound too_far f g h s s' = (omega arith, omega arith)
with_test_sound unknown f g h s s' = absurd h

is_value_yes : (v : ℤ) → IsValue v → is_value v ≡ true
is_value_yes v h = grind (arith, h)

with_key_sound : (table : ℕ) (id : ℤ) (f : Key → Run) → table ≤ 7 → IsValue id → IsSound (f (table, id)) → IsSound (with_key table id f)
with_key_sound table id f t h s = let e : nat_le table 7 ≡ true = grind (arith, nat_tests) in rw (e, is_value_yes id h) s

with_stored_sound : (v : ℤ) (f : Run) → IsValue v → IsSound f → IsSound (with_stored v f)
with_stored_sound v f h s = rw (is_value_yes v h) s

found_sound : (absent : ℕ) (v : Option ℤ) (f : ℤ → Run) → (1 ≤ absent) × (absent ≤ 999) → IsValueOrNone v
    → ((x : ℤ) → IsValue x → IsSound (f x)) → IsSound (if_found absent v f)
found_sound absent None f c h s = (c.0, omega (arith, c.1))
found_sound absent (Some v) f c h s = s v h

found_or_value : (absent : ℤ) (found : Option ℤ) → IsValue absent → IsValueOrNone found → IsValue (found_or absent found)
found_or_value absent None h may = h
found_or_value absent (Some v) h may = may

with_capacity_sound : (answers : List ℤ) (f : Run) → length answers < 8 → IsSound f → IsSound (with_capacity answers f)
with_capacity_sound answers f h s = let e : nat_lt (length answers) 8 ≡ true = grind (arith, nat_tests) in rw e s

few_left : (n a b : ℕ) → n + max a b ≤ 8 → n + a ≤ 8
few_left n a b h = omega (arith, h)

few_right : (n a b : ℕ) → n + max a b ≤ 8 → n + b ≤ 8
few_right n a b h = omega (arith, h)

module _ (args : List ℤ) (all_values : All IsValue args) where
  -- no number has a flaw
  abbrev Clean : ((Number → Bool) → Bool) → Type 0
  Clean some = (f : Flaw) → some (is_bad f (length args)) ≡ false

  arg_has : (k : ℕ) → k < length args → IsSomeValue (slice_get args k)
  arg_has k h = subst IsSomeValue (sym (slice_get-get_or args k (pos 0) h)) (All-get_or IsValue args k (pos 0) h all_values)

  value_fine : (regs : Registers) (t : ExprText) → Clean (λ so. in_expr so t) → AreAssigned (λ r. uses r t) regs
      → IsFine (value_of t args regs)
  value_fine regs (num v) c assigned = allowed_number (length args) (Literal v) c
  value_fine regs (arg k) c assigned = got_fine (slice_get args k) (arg_has k (allowed_number (length args) (Argument k) c))
  value_fine regs (reg n) c assigned =
      got_fine (slice_index_or regs n None) (assigned n (allowed_number (length args) (Register n) c) (eq-eqb n n refl))
  value_fine regs (sum a b) c assigned =
      both_fine _ (λ x y. bounded_fine (x +ℤ y)) (value_of a args regs) (value_of b args regs)
      (value_fine regs a (λ f. (or_parts _ _ (c f)).0) (λ r h e. assigned r h (or_left (uses r a) (uses r b) e)))
      (value_fine regs b (λ f. (or_parts _ _ (c f)).1) (λ r h e. assigned r h (or_right (uses r a) (uses r b) e)))
  value_fine regs (diff a b) c assigned =
      both_fine _ (λ x y. bounded_fine (x -ℤ y)) (value_of a args regs) (value_of b args regs)
      (value_fine regs a (λ f. (or_parts _ _ (c f)).0) (λ r h e. assigned r h (or_left (uses r a) (uses r b) e)))
      (value_fine regs b (λ f. (or_parts _ _ (c f)).1) (λ r h e. assigned r h (or_right (uses r a) (uses r b) e)))
  value_fine regs (product a b) c assigned =
      both_fine _ (λ x y. bounded_fine (x *ℤ y)) (value_of a args regs) (value_of b args regs)
      (value_fine regs a (λ f. (or_parts _ _ (c f)).0) (λ r h e. assigned r h (or_left (uses r a) (uses r b) e)))
      (value_fine regs b (λ f. (or_parts _ _ (c f)).1) (λ r h e. assigned r h (or_right (uses r a) (uses r b) e)))
  value_fine regs (quotient a b) c assigned =
      both_fine _ divided_fine (value_of a args regs) (value_of b args regs)
      (value_fine regs a (λ f. (or_parts _ _ (c f)).0) (λ r h e. assigned r h (or_left (uses r a) (uses r b) e)))
      (value_fine regs b (λ f. (or_parts _ _ (c f)).1) (λ r h e. assigned r h (or_right (uses r a) (uses r b) e)))

  both_known : (op : ℤ → ℤ → Bool) (regs : Registers) (a b : ExprText) → Clean (λ so. in_expr so a || in_expr so b)
      → AreAssigned (λ r. uses r a || uses r b) regs → IsKnown (compared op (value_of a args regs) (value_of b args regs))
  both_known op regs a b c assigned =
      compared_known op (value_of a args regs) (value_of b args regs)
      (value_fine regs a (λ f. (or_parts _ _ (c f)).0) (λ r h e. assigned r h (or_left (uses r a) (uses r b) e)))
      (value_fine regs b (λ f. (or_parts _ _ (c f)).1) (λ r h e. assigned r h (or_right (uses r a) (uses r b) e)))

  test_known : (regs : Registers) (t : CondText) → Clean (λ so. in_cond so t) → AreAssigned (λ r. cond_uses r t) regs
      → IsKnown (truth_of t args regs)
  test_known regs (less a b) c assigned = both_known _ regs a b c assigned
  test_known regs (at_most a b) c assigned = both_known _ regs a b c assigned
  test_known regs (equal a b) c assigned = both_known _ regs a b c assigned

  -- along statements whose numbers are clean, with the registers assigned that are used before they are set, and few answers
  run_sound : (w : Way) (regs : Registers) (answers : List ℤ) → Clean (λ so. in_way so w) → length regs ≡ 16
      → AreAssigned (λ r. uses_unset r w) regs → length answers + most_answers w ≤ 8 → All IsValue answers
      → IsSound (run args w regs answers)
  run_sound way.end regs answers c l assigned m all = (omega (arith, m), all)
  run_sound (way.look to table id absent rest) regs answers c l assigned m all =
      let here = (λ (f : Flaw). (or_parts _ _ (c f)).0) in
      let following = (λ (f : Flaw). (or_parts _ _ (c f)).1) in
      let others = (λ (f : Flaw). (or_parts _ _ (here f)).1) in
      let ends = (λ (f : Flaw). (or_parts _ _ (others f)).1) in
      let register = allowed_number (length args) (Register to) (λ f. (or_parts _ _ (here f)).0) in
      let is_table = allowed_number (length args) (Table table) (λ f. (or_parts _ _ (others f)).0) in
      let code = allowed_number (length args) (Code absent) (λ f. (or_parts _ _ (ends f)).1) in
      with_value_sound (value_of id args regs) _ (value_fine regs id (λ f. (or_parts _ _ (ends f)).0)
      (λ r h e. assigned r h (or_left _ _ e)))
      (λ n g. with_key_sound table n (λ k. looks k (λ found. if_found absent found
      (λ v. run args rest (slice_set regs to (Some v)) answers))) is_table g (
        (is_table, g),
        λ found may. found_sound absent found (λ v. run args rest (slice_set regs to (Some v)) answers) code may
            (λ v h. run_sound rest (slice_set regs to (Some v)) answers following (length_next regs to v l)
            (assigned_next (λ r. uses_unset r rest) regs to v l register h (λ r k e. assigned r k (or_right _ _ e))) m all),
      ))
  run_sound (way.find to table id absent rest) regs answers c l assigned m all =
      let here = (λ (f : Flaw). (or_parts _ _ (c f)).0) in
      let following = (λ (f : Flaw). (or_parts _ _ (c f)).1) in
      let others = (λ (f : Flaw). (or_parts _ _ (here f)).1) in
      let ends = (λ (f : Flaw). (or_parts _ _ (others f)).1) in
      let register = allowed_number (length args) (Register to) (λ f. (or_parts _ _ (here f)).0) in
      let is_table = allowed_number (length args) (Table table) (λ f. (or_parts _ _ (others f)).0) in
      with_value_sound (value_of id args regs) _ (value_fine regs id (λ f. (or_parts _ _ (ends f)).0)
      (λ r h e. assigned r h (or_left _ _ (or_left _ _ e))))
      (λ n g. with_value_sound (value_of absent args regs) _ (value_fine regs absent (λ f. (or_parts _ _ (ends f)).1)
      (λ r h e. assigned r h (or_left _ _ (or_right _ _ e))))
      (λ v g'. with_key_sound table n
      (λ k. looks k (λ found. run args rest (slice_set regs to (Some (found_or v found))) answers)) is_table g (
        (is_table, g),
        λ found may.
            let w = found_or v found in
            let fits = found_or_value v found g' may in
            run_sound rest (slice_set regs to (Some w)) answers following (length_next regs to w l)
            (assigned_next (λ r. uses_unset r rest) regs to w l register fits (λ r k e. assigned r k (or_right _ _ e))) m all,
      )))
  run_sound (way.put table id value rest) regs answers c l assigned m all =
      let here = (λ (f : Flaw). (or_parts _ _ (c f)).0) in
      let following = (λ (f : Flaw). (or_parts _ _ (c f)).1) in
      let terms = (λ (f : Flaw). (or_parts _ _ (here f)).1) in
      let is_table = allowed_number (length args) (Table table) (λ f. (or_parts _ _ (here f)).0) in
      with_value_sound (value_of id args regs) _ (value_fine regs id (λ f. (or_parts _ _ (terms f)).0)
      (λ r h e. assigned r h (or_left _ _ (or_left _ _ e))))
      (λ n g. with_value_sound (value_of value args regs) _
      (value_fine regs value (λ f. (or_parts _ _ (terms f)).1) (λ r h e. assigned r h (or_left _ _ (or_right _ _ e))))
      (λ v h. with_key_sound table n (λ k. with_stored v (puts k (Some v) (run args rest regs answers))) is_table g
      (with_stored_sound v (puts (table, n) (Some v) (run args rest regs answers)) h
      ((is_table, g), (h, run_sound rest regs answers following l (λ r k e. assigned r k (or_right _ _ e)) m all)))))
  run_sound (way.remove table id rest) regs answers c l assigned m all =
      let here = (λ (f : Flaw). (or_parts _ _ (c f)).0) in
      let following = (λ (f : Flaw). (or_parts _ _ (c f)).1) in
      let is_table = allowed_number (length args) (Table table) (λ f. (or_parts _ _ (here f)).0) in
      with_value_sound (value_of id args regs) _ (value_fine regs id (λ f. (or_parts _ _ (here f)).1)
      (λ r h e. assigned r h (or_left _ _ e)))
      (λ n g. with_key_sound table n (λ k. puts k None (run args rest regs answers)) is_table g
      ((is_table, g), (tt, run_sound rest regs answers following l (λ r k e. assigned r k (or_right _ _ e)) m all)))
  run_sound (way.save to value rest) regs answers c l assigned m all =
      let here = (λ (f : Flaw). (or_parts _ _ (c f)).0) in
      let following = (λ (f : Flaw). (or_parts _ _ (c f)).1) in
      let register = allowed_number (length args) (Register to) (λ f. (or_parts _ _ (here f)).0) in
      with_value_sound (value_of value args regs) _ (value_fine regs value (λ f. (or_parts _ _ (here f)).1)
      (λ r h e. assigned r h (or_left _ _ e)))
      (λ v h. run_sound rest (slice_set regs to (Some v)) answers following (length_next regs to v l)
      (assigned_next (λ r. uses_unset r rest) regs to v l register h (λ r k e. assigned r k (or_right _ _ e))) m all)
  run_sound (way.ask code) regs answers c l assigned m all =
      let requested = allowed_number (length args) (Code code) c in
      (requested.0, omega (arith, requested.1))
  run_sound (way.fork test ys ns) regs answers c l assigned m all =
      let branches = (λ (f : Flaw). (or_parts _ _ (c f)).1) in
      with_test_sound (truth_of test args regs) _ _ (test_known regs test (λ f. (or_parts _ _ (c f)).0)
      (λ r h e. assigned r h (or_left _ _ e)))
      (run_sound ys regs answers (λ f. (or_parts _ _ (branches f)).0) l (λ r h e. assigned r h (or_right _ _ (or_left _ _ e)))
      (few_left (length answers) (most_answers ys) (most_answers ns) m) all)
      (run_sound ns regs answers (λ f. (or_parts _ _ (branches f)).1) l (λ r h e. assigned r h (or_right _ _ (or_right _ _ e)))
      (few_right (length answers) (most_answers ys) (most_answers ns) m) all)
  run_sound (way.answer value rest) regs answers c l assigned m all =
      with_value_sound (value_of value args regs) _ (value_fine regs value (λ f. (or_parts _ _ (c f)).0)
      (λ r h e. assigned r h (or_left _ _ e)))
      (λ v h. with_capacity_sound answers (run args rest regs (answers ++ v ∷ [])) (omega (arith, m))
      (run_sound rest regs (answers ++ v ∷ []) (λ f. (or_parts _ _ (c f)).1) l (λ r k e. assigned r k (or_right _ _ e))
      (omega (arith, m, length-append answers (v ∷ [])))
      (All-append IsValue answers (v ∷ []) all (All-cons IsValue v [] h (All-nil IsValue)))))

not_true : (b : Bool) → (IsTrue b → ⊥) → b ≡ false
not_true true h = absurd (h refl)
not_true false h = refl

at_most_8 : (n : ℕ) → (8 < n → ⊥) → 0 + n ≤ 8
at_most_8 n h = grind (arith, h)

-- a text without a flaw has clean numbers
clean : (p : ProcedureText) → IsFlawless p → (f : Flaw) → in_block (is_bad f p.args) p.body ≡ false
clean p h HighRegister = not_true _ (h HighRegister)
clean p h UnsetRegister = in_nothing p.body
clean p h NoArgument = not_true _ (h NoArgument)
clean p h HighTable = not_true _ (h HighTable)
clean p h TooLong = in_nothing p.body
clean p h TooDeep = in_nothing p.body
clean p h ManyAnswers = in_nothing p.body
clean p h BadCode = not_true _ (h BadCode)
clean p h ManyArguments = in_nothing p.body
clean p h BadLiteral = not_true _ (h BadLiteral)

pub flawless_is_sound : FlawlessIsSound
flawless_is_sound p args h few all =
    run_sound args all (onto p.body way.end) fresh []
    (λ f. in_onto (is_bad f (length args)) p.body way.end (rw few (clean p h f)) refl)
    refl
    (λ r k e. absurd (h UnsetRegister (r, (k, e))))
    (at_most_8 (most_answers (onto p.body way.end)) (h ManyAnswers))
    (All-nil IsValue)
