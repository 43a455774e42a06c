-- Bits of numbers as sets of indices.
use Rattle.std.specs.Prelude.{◌≡◌, ℕ, ◌-◌, ◌*◌, ◌%◌, ◌^◌, ◌<◌, ◌≤◌, ◌⊎◌, min, max, true, false, not, ◌&&◌, ◌||◌, nat_eq, bit_and, bit_or}
use Rattle.std.proofs.Common.{refl, sym, ◌∙◌, ap, subst, inl, inr, arith, w32}
use Rattle.std.proofs.lemmas.Bool.{eq-eqb, eqb-true, false_from_ne_true, cases_eq, cases_lt}
use Rattle.std.proofs.lemmas.Nat.{one_shl, pow_pos}
use Rattle.std.proofs.lemmas.Nat.Bits.{bit_at_and, bit_at_or, bit_at_not, bit_at_above, bit_at-zero, bit_at-lt, bit_at-pow_same, bit_at-pow_other, bit_at-trailing_zeros, and_pow}
use Rattle.std.specs.Int.{bit_at, trailing_zeros}
use Rattle.sgt_cycle.specs.Indices.{is_set}

digit : (x : ℕ) → x < 2 → (x ≡ 0) ⊎ (x ≡ 1)
digit x below = elim (cases_eq x 0) [ inl e ↦ inl e | inr n ↦ inr (omega arith) ]

module _ (x y : ℕ) (p : x < 2) (q : y < 2) where
  digits_min : nat_eq (min x y) 1 ≡ (nat_eq x 1 && nat_eq y 1)
  digits_min = elim (digit x p) [
    | inl e ↦ elim (digit y q) [ inl f ↦ rw (e, f) refl | inr f ↦ rw (e, f) refl ]
    | inr e ↦ elim (digit y q) [ inl f ↦ rw (e, f) refl | inr f ↦ rw (e, f) refl ]
  ]

  digits_max : nat_eq (max x y) 1 ≡ (nat_eq x 1 || nat_eq y 1)
  digits_max = elim (digit x p) [
    | inl e ↦ elim (digit y q) [ inl f ↦ rw (e, f) refl | inr f ↦ rw (e, f) refl ]
    | inr e ↦ elim (digit y q) [ inl f ↦ rw (e, f) refl | inr f ↦ rw (e, f) refl ]
  ]

  digits_minus : nat_eq (min x (1 - y)) 1 ≡ (nat_eq x 1 && not (nat_eq y 1))
  digits_minus = elim (digit x p) [
    | inl e ↦ elim (digit y q) [ inl f ↦ rw (e, f) refl | inr f ↦ rw (e, f) refl ]
    | inr e ↦ elim (digit y q) [ inl f ↦ rw (e, f) refl | inr f ↦ rw (e, f) refl ]
  ]

pub common_set : (a b i : ℕ) → is_set (bit_and a b) i ≡ (is_set a i && is_set b i)
unfolding is_set
common_set a b i = ap (λ x. nat_eq x 1) (bit_at_and a b i) ∙ digits_min (bit_at a i) (bit_at b i) (bit_at-lt a i) (bit_at-lt b i)

pub joined_set : (a b i : ℕ) → is_set (bit_or a b) i ≡ (is_set a i || is_set b i)
unfolding is_set
joined_set a b i = ap (λ x. nat_eq x 1) (bit_at_or a b i) ∙ digits_max (bit_at a i) (bit_at b i) (bit_at-lt a i) (bit_at-lt b i)

-- no index from 32 on is in a set
pub none_above : (a i : ℕ) → a < 2 ^ 32 → 32 ≤ i → is_set a i ≡ false
unfolding is_set
none_above a i fits high = ap (λ x. nat_eq x 1) (bit_at_above a 32 i fits high)

pub none_in : (i : ℕ) → is_set 0 i ≡ false
unfolding is_set
none_in i = ap (λ x. nat_eq x 1) (bit_at-zero i)

pub minus_set : (a b i : ℕ) → a < 2 ^ 32 → b < 2 ^ 32 → is_set (bit_and a (4294967295 - b)) i ≡ (is_set a i && not (is_set b i))
unfolding is_set
minus_set a b i p q = elim (cases_lt i 32) [
  | inl low ↦ ap (λ x. nat_eq x 1) (bit_at_and a (4294967295 - b) i ∙ ap (min (bit_at a i)) (bit_at_not w32 b i q low))
      ∙ digits_minus (bit_at a i) (bit_at b i) (bit_at-lt a i) (bit_at-lt b i)
  | inr high ↦ common_set a (4294967295 - b) i ∙ rw (none_above a i p high) refl
]

pub only_set : (k i : ℕ) → k < 32 → is_set (1 * 2 ^ k % 4294967296) i ≡ nat_eq i k
unfolding is_set
only_set k i within = ap (λ n. nat_eq (bit_at n i) 1) (one_shl k 32 within) ∙ elim (cases_eq i k) [
  | inl e ↦ ap (λ x. nat_eq x 1) (subst (λ j. bit_at (2 ^ k) j ≡ 1) (sym e) (bit_at-pow_same k)) ∙ sym (eq-eqb i k e)
  | inr n ↦ ap (λ x. nat_eq x 1) (bit_at-pow_other k i n) ∙ sym (false_from_ne_true (nat_eq i k) (λ t. n (eqb-true i k t)))
]

zero_test : (x : ℕ) → not (nat_eq (0 * x) 0) ≡ false
zero_test x = ap not (eq-eqb (0 * x) 0 (omega arith))

some_test : (x : ℕ) → 0 < x → not (nat_eq (1 * x) 0) ≡ true
some_test x some = ap not (false_from_ne_true (nat_eq (1 * x) 0) (λ t. let e : 1 * x ≡ 0 = eqb-true (1 * x) 0 t in absurd (omega arith)))

pub has_set : (a k : ℕ) → k < 32 → not (nat_eq (bit_and a (1 * 2 ^ k % 4294967296)) 0) ≡ is_set a k
unfolding is_set
has_set a k within = ap (λ m. not (nat_eq (bit_and a m) 0)) (one_shl k 32 within) ∙ ap (λ x. not (nat_eq x 0)) (and_pow a k)
    ∙ elim (digit (bit_at a k) (bit_at-lt a k)) [
      | inl e ↦ ap (λ d. not (nat_eq (d * 2 ^ k) 0)) e ∙ zero_test (2 ^ k) ∙ sym (ap (λ x. nat_eq x 1) e)
      | inr e ↦ ap (λ d. not (nat_eq (d * 2 ^ k) 0)) e ∙ some_test (2 ^ k) (pow_pos k) ∙ sym (ap (λ x. nat_eq x 1) e)
    ]

pub complement_set : (a i : ℕ) → a < 2 ^ 32 → i < 32 → is_set (4294967295 - a) i ≡ not (is_set a i)
unfolding is_set
complement_set a i fits low = ap (λ x. nat_eq x 1) (bit_at_not w32 a i fits low) ∙ flip (bit_at a i) (bit_at-lt a i)
  where
    flip : (x : ℕ) → x < 2 → nat_eq (1 - x) 1 ≡ not (nat_eq x 1)
    flip x p = elim (digit x p) [ inl e ↦ rw e refl | inr e ↦ rw e refl ]

pub least_set : (a : ℕ) → 0 < a → a < 2 ^ 32 → (trailing_zeros w32 a < 32) × (is_set a (trailing_zeros w32 a) ≡ true)
unfolding is_set
least_set a some fits = let h = bit_at-trailing_zeros w32 a some fits in (h.0, ap (λ x. nat_eq x 1) h.1)

pub none_below : (a j : ℕ) → 0 < a → a < 2 ^ 32 → is_set a j ≡ true → trailing_zeros w32 a ≤ j
unfolding is_set
none_below a j some fits set = elim (cases_lt j (trailing_zeros w32 a)) [
  | inl lower ↦ absurd (omega (arith, (bit_at-trailing_zeros w32 a some fits).2 j lower, eqb-true (bit_at a j) 1 set))
  | inr above ↦ above
]
