-- The five procedures, run at once, against the bank's arithmetic.
use Rattle.std.proofs.Common.{◌≡◌, refl, subst, ◌∙◌, ap, ℕ, zero, suc, ℤ, pos, ◌+ℤ◌, ◌-ℤ◌, Bool, true, false, cond, List, [], ◌∷◌, length, Option, Some, None, arith, All}
use Rattle.std.specs.Prelude.{int_lt, IfSome}
use Rattle.sgt_model.specs.Numbers.{IsValue, is_value}
use Rattle.sgt_model.specs.Contents.{Key, Contents, put_in}
use Rattle.sgt_model.specs.Syntax.{ProcedureText}
use Rattle.sgt_model.specs.Runs.{Run, looks, puts, raises, Outcome, Asked, serial}
use Rattle.sgt_model.specs.Meaning.{is, over, both, compared, wrong, with_value, with_condition, if_found, run_with}
use Rattle.sgt_smallbank.specs.Texts.{balance, deposit_checking, transact_saving, amalgamate, write_check}
use Rattle.sgt_smallbank.specs.Tables.{saving, checking}
use Rattle.sgt_model.specs.StoredValues.{HoldValues}
use Rattle.sgt_smallbank.specs.Arithmetic.{refused_if, if_present, in_range, now_has, bank, SerialIsBank}
use Rattle.sgt_smallbank.proofs.Values.{Decides-is_value}

-- ---- single steps

found_at : (o : Option ℤ) (code : ℕ) (go : ℤ → Run) (m : Contents) (next : ℤ → Outcome)
    → ((v : ℤ) → o ≡ Some v → serial (go v) m ≡ next v) → serial (if_found code o go) m ≡ if_present code o next
found_at None code go m next then = refl
found_at (Some v) code go m next then = then v refl

-- a read of a valid key
look_step : (fits : Bool) (k : Key) (code : ℕ) (go : ℤ → Run) (m : Contents) (next : ℤ → Outcome) → fits ≡ true
    → ((v : ℤ) → m k ≡ Some v → serial (go v) m ≡ next v) → serial (cond fits (looks k (λ o. if_found code o go)) wrong) m
    ≡ if_present code (m k) next
look_step fits k code go m next e then = rw e (found_at (m k) code go m next then)

-- a write of a value to a valid key
put_step : (fits is_one : Bool) (k : Key) (v : ℤ) (rest : Run) (m : Contents) (last : Outcome) → fits ≡ true → is_one ≡ true
    → serial rest (put_in m k v) ≡ last → serial (cond fits (cond is_one (puts k (Some v) rest) wrong) wrong) m ≡ last
put_step fits is_one k v rest m last e f then = rw (e, f) then

-- a write of 0
put_zero : (fits : Bool) (k : Key) (rest : Run) (m : Contents) (last : Outcome) → fits ≡ true
    → serial rest (put_in m k (pos 0)) ≡ last → serial (cond fits (puts k (Some (pos 0)) rest) wrong) m ≡ last
put_zero fits k rest m last e then = rw e then

-- a code raised if a test holds
raise_step : (test : Bool) (code : ℕ) (rest : Run) (m : Contents) (next : Outcome) → serial rest m ≡ next
    → serial (cond test (raises code) rest) m ≡ refused_if test code next
raise_step true code rest m next then = refl
raise_step false code rest m next then = then

ranged : (fits : Bool) (z : ℤ) (go : ℤ → Run) (m : Contents) (next : ℤ → Outcome) → (fits ≡ true → serial (go z) m ≡ next z)
    → serial (with_value (cond fits (is z) over) go) m ≡ cond fits (next z) (Asked 1000)
ranged true z go m next then = then refl
ranged false z go m next then = refl

-- a number that must be a value
range_step : (z : ℤ) (go : ℤ → Run) (m : Contents) (next : ℤ → Outcome) → ((x : ℤ) → is_value x ≡ true → serial (go x) m ≡ next x)
    → serial (with_value (cond (is_value z) (is z) over) go) m ≡ in_range z next
range_step z go m next then = ranged (is_value z) z go m next (then z)

tested : (fits : Bool) (z y : ℤ) (ys ns : Run) (m : Contents) (f g : Outcome) → serial ys m ≡ f → serial ns m ≡ g
    → serial (with_condition (compared int_lt (cond fits (is z) over) (is y)) ys ns) m ≡ cond fits (cond (int_lt z y) f g) (Asked 1000)
tested true z y ys ns m f g is_f is_g = which (int_lt z y)
  where
    which : (b : Bool) → serial (cond b ys ns) m ≡ cond b f g
    which true = is_f
    which false = is_g
tested false z y ys ns m f g is_f is_g = refl

-- a number that must be a value, compared with another
test_step : (z y : ℤ) (ys ns : Run) (m : Contents) (f g : Outcome) → serial ys m ≡ f → serial ns m ≡ g
    → serial (with_condition (compared int_lt (cond (is_value z) (is z) over) (is y)) ys ns) m ≡ cond (is_value z)
    (cond (int_lt z y) f g) (Asked 1000)
test_step z = tested (is_value z) z

subtracted : (fits : Bool) (z y : ℤ) (go : ℤ → Run) (m : Contents) (next : ℤ → Outcome)
    → ((x : ℤ) → is_value x ≡ true → serial (go x) m ≡ next x)
    → serial (with_value (both (λ a b. cond (is_value (a -ℤ b)) (is (a -ℤ b)) over) (cond fits (is z) over) (is y)) go) m
    ≡ cond fits (in_range (z -ℤ y) next) (Asked 1000)
subtracted true z y go m next then = range_step (z -ℤ y) go m next then
subtracted false z y go m next then = refl

-- a number minus another; both must be values
subtract_step : (z y : ℤ) (go : ℤ → Run) (m : Contents) (next : ℤ → Outcome)
    → ((x : ℤ) → is_value x ≡ true → serial (go x) m ≡ next x)
    → serial (with_value (both (λ a b. cond (is_value (a -ℤ b)) (is (a -ℤ b)) over) (cond (is_value z) (is z) over) (is y)) go) m
    ≡ in_range z (λ x. in_range (x -ℤ y) next)
subtract_step z = subtracted (is_value z) z

-- a range check with which both branches start
range_first : (test fits : Bool) (f g e : Outcome) → cond test (cond fits f e) (cond fits g e) ≡ cond fits (cond test f g) e
range_first true true f g e = refl
range_first true false f g e = refl
range_first false true f g e = refl
range_first false false f g e = refl

-- ---- values

-- the first argument, and the second, are values
first_value : (a : ℤ) (rest : List ℤ) → All IsValue (a ∷ rest) → is_value a ≡ true
first_value a rest values = (Decides-is_value a).1 (values 0 a (omega arith))

second_value : (a b : ℤ) (rest : List ℤ) → All IsValue (a ∷ b ∷ rest) → is_value b ≡ true
second_value a b rest values = (Decides-is_value b).1 (values 1 b (omega arith))

-- so are the contents
held_value : (m : Contents) → HoldValues m → (k : Key) (v : ℤ) → m k ≡ Some v → is_value v ≡ true
held_value m hold k v at = (Decides-is_value v).1 (subst (λ o. IfSome o IsValue) at (hold k))

-- ---- the five procedures

module _ (m : Contents) (hold : HoldValues m) where
  balance_is : (args : List ℤ) → length args ≡ 1 → All IsValue args → serial (run_with balance args) m ≡ bank 0 args m
  balance_is [] count values = absurd (omega arith)
  balance_is (name ∷ []) count values =
      look_step _ _ _ _ m _ (first_value name [] values) (λ customer at.
      look_step _ _ _ _ m _ (held_value m hold _ customer at) (λ s _.
      look_step _ _ _ _ m _ (held_value m hold _ customer at) (λ c _.
      range_step (s +ℤ c) _ m _ (λ _ _. refl))))
  balance_is (a ∷ b ∷ rest) count values = absurd (omega arith)

  deposit_checking_is : (args : List ℤ) → length args ≡ 2 → All IsValue args → serial (run_with deposit_checking args) m ≡ bank 1 args m
  deposit_checking_is [] count values = absurd (omega arith)
  deposit_checking_is (a ∷ []) count values = absurd (omega arith)
  deposit_checking_is (name ∷ amount ∷ []) count values =
      raise_step _ _ _ m _ (
      look_step _ _ _ _ m _ (first_value name (amount ∷ []) values) (λ customer at.
      look_step _ _ _ _ m _ (held_value m hold _ customer at) (λ c _.
      range_step (c +ℤ amount) _ m _ (λ new fits.
      put_step _ _ _ _ _ m _ (held_value m hold _ customer at) fits refl))))
  deposit_checking_is (a ∷ b ∷ d ∷ rest) count values = absurd (omega arith)

  transact_saving_is : (args : List ℤ) → length args ≡ 2 → All IsValue args → serial (run_with transact_saving args) m ≡ bank 2 args m
  transact_saving_is [] count values = absurd (omega arith)
  transact_saving_is (a ∷ []) count values = absurd (omega arith)
  transact_saving_is (name ∷ amount ∷ []) count values =
      look_step _ _ _ _ m _ (first_value name (amount ∷ []) values) (λ customer at.
      look_step _ _ _ _ m _ (held_value m hold _ customer at) (λ s _.
      range_step (s +ℤ amount) _ m (λ new. refused_if (int_lt new (pos 0)) 3 (now_has m (saving customer) new)) (λ new fits.
      raise_step (int_lt new (pos 0)) 3 _ m _ (
      put_step _ _ _ _ _ m _ (held_value m hold _ customer at) fits refl))))
  transact_saving_is (a ∷ b ∷ d ∷ rest) count values = absurd (omega arith)

  amalgamate_is : (args : List ℤ) → length args ≡ 2 → All IsValue args → serial (run_with amalgamate args) m ≡ bank 3 args m
  amalgamate_is [] count values = absurd (omega arith)
  amalgamate_is (a ∷ []) count values = absurd (omega arith)
  amalgamate_is (from ∷ to ∷ []) count values =
      raise_step _ _ _ m _ (
      look_step _ _ _ _ m _ (first_value from (to ∷ []) values) (λ giver gives.
      look_step _ _ _ _ m _ (second_value from to [] values) (λ taker takes.
      look_step _ _ _ _ m _ (held_value m hold _ giver gives) (λ s _.
      look_step _ _ _ _ m _ (held_value m hold _ giver gives) (λ c _.
      range_step (s +ℤ c) _ m _ (λ sum _.
      put_zero _ _ _ m _ (held_value m hold _ giver gives) (
      put_zero _ _ _ _ _ (held_value m hold _ giver gives) (
      look_step _ _ _ _ _ _ (held_value m hold _ taker takes) (λ had _.
      range_step (had +ℤ sum) _ _ _ (λ new fits.
      put_step _ _ _ _ _ _ _ (held_value m hold _ taker takes) fits refl))))))))))
  amalgamate_is (a ∷ b ∷ d ∷ rest) count values = absurd (omega arith)

  write_check_is : (args : List ℤ) → length args ≡ 2 → All IsValue args → serial (run_with write_check args) m ≡ bank 4 args m
  write_check_is [] count values = absurd (omega arith)
  write_check_is (a ∷ []) count values = absurd (omega arith)
  write_check_is (name ∷ amount ∷ []) count values =
      raise_step _ _ _ m _ (
      look_step _ _ _ _ m _ (first_value name (amount ∷ []) values) (λ customer at.
      look_step _ _ _ _ m _ (held_value m hold _ customer at) (λ s _.
      look_step _ _ _ _ m _ (held_value m hold _ customer at) (λ c _.
      test_step (s +ℤ c) amount _ _ m _ _
      (subtract_step (c -ℤ amount) (pos 100) _ m (now_has m (checking customer))
      (λ new fits. put_step _ _ _ _ _ m _ (held_value m hold _ customer at) fits refl))
      (range_step (c -ℤ amount) _ m (now_has m (checking customer))
      (λ new fits. put_step _ _ _ _ _ m _ (held_value m hold _ customer at) fits refl))
      ∙ ap (λ o. cond (is_value (s +ℤ c)) o (Asked 1000)) (range_first (int_lt (s +ℤ c) amount) (is_value (c -ℤ amount)) _ _ _)))))
  write_check_is (a ∷ b ∷ d ∷ rest) count values = absurd (omega arith)

-- the law, from the law of each
along : (n : ℕ) (q p : ProcedureText) (args : List ℤ) (m : Contents) → Some q ≡ Some p
    → (length args ≡ q.args → serial (run_with q args) m ≡ bank n args m) → length args ≡ p.args
    → serial (run_with p args) m ≡ bank n args m
along n q p args m same of_q = let e : q ≡ p = cc in subst (λ r. length args ≡ r.args → serial (run_with r args) m ≡ bank n args m) e of_q

pub serial_is_bank : SerialIsBank
serial_is_bank zero p args m at count values hold = along 0 balance p args m at (λ n. balance_is m hold args n values) count
serial_is_bank (suc zero) p args m at count values hold =
    along 1 deposit_checking p args m at (λ n. deposit_checking_is m hold args n values) count
serial_is_bank (suc (suc zero)) p args m at count values hold =
    along 2 transact_saving p args m at (λ n. transact_saving_is m hold args n values) count
serial_is_bank (suc (suc (suc zero))) p args m at count values hold =
    along 3 amalgamate p args m at (λ n. amalgamate_is m hold args n values) count
serial_is_bank (suc (suc (suc (suc zero)))) p args m at count values hold =
    along 4 write_check p args m at (λ n. write_check_is m hold args n values) count
serial_is_bank (suc (suc (suc (suc (suc n))))) p args m at count values hold = absurd cc
