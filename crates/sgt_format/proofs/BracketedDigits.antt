-- Digits that a closing bracket ends.
use Rattle.std.proofs.Common.{◌≡◌, ◌≢◌, ◌≤◌, ◌<◌, ◌+◌, ◌-◌, ◌*◌, ◌^◌, Bool, true, false, eqb, ℕ, List, length, refl, ap, arith}
use Rattle.std.specs.Prelude.{slice_index}
use native.Mathlib.Nat.{pow-le-pow_right}
use lib.Pow.{pow-add}
use Rattle.std.proofs.lemmas.Bool.{eqb-true, eqb-false}

-- a digit is before the bracket
pub digit_inside : (text : List ℕ) (at : ℕ) → slice_index text (length text - 1) ≡ 93 → slice_index text at ≤ 57 → at < length text
    → at + 1 < length text
digit_inside text at last digit within = by (eqb at (length text - 1)) refl
  where
    by : (b : Bool) → eqb at (length text - 1) ≡ b → at + 1 < length text
    by true is = absurd (omega (arith, ap (slice_index text) (eqb-true at (length text - 1) is), last, digit))
    by false is = let other : at ≢ length text - 1 = eqb-false at (length text - 1) is in omega (arith, other, within)

-- a number of at most ten digits
pub ten_digits : (n d : ℕ) → n < 10 ^ d → d ≤ 10 → n < 10_000_000_000
ten_digits n d small few =
    let most : 10 ^ d ≤ 10 ^ 10 = pow-le-pow_right (omega arith) few in omega (arith, small, most)

-- a number with one more digit
pub one_digit_more : (n m x d : ℕ) → n < 10 ^ d → x ≤ 9 → m ≡ 10 * n + x → m < 10 ^ (d + 1)
one_digit_more n m x d small digit is =
    let more : 10 ^ (d + 1) ≡ 10 ^ d * 10 = pow-add 10 d 1 in omega (arith, small, digit, is, more)
