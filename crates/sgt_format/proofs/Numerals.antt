-- The whole numbers that texts spell.
use Rattle.std.proofs.Common.{◌≡◌, ◌≢◌, ◌-◌, ◌==◌, ◌<◌, ◌≤◌, ◌^◌, Bool, ℕ, suc, ℤ, pos, true, false, List, [], ◌∷◌, ◌++◌, length, take, drop, take_all, length-drop, Some, None, Option, refl, ap, sym, ◌∙◌, arith, lt-ltb, le-leb, FitsSigned, w64}
use mir.Val.{to_z, of_z}
use Rattle.std.proofs.lemmas.Grind.{common_steps}
use Rattle.std.specs.Prelude.{slice_index, option_and_then}
use Rattle.fast_float.specs.Text.{Parts, scan, digits_of, with_sign, IsInteger}
use Rattle.serde_json.specs.Find.{as_i64}
use Rattle.serde_json.specs.Read.{number_of, number_from, is_integer}
use Rattle.sgt_format.specs.LineTokens.{whole_number, whole_numbers}

-- equal `Some`s hold equal values
pub some_inj : {A : Type 0} {a b : A} → Some a ≡ Some b → a ≡ b
some_inj {A} {a} {b} e = cc

integer : (p : Parts) → IsInteger p → is_integer p ≡ true
integer p h = rw (lt-ltb _ _ h.0, h.1, h.2) refl

-- a numeral after its sign, except `-0`
by_sign : (negative : Bool) (p : Parts) → IsInteger p → FitsSigned w64 (with_sign negative (digits_of p))
    → (negative ≡ true → with_sign negative (digits_of p) ≢ pos 0)
    → option_and_then as_i64 (number_from negative p) ≡ Some (with_sign negative (digits_of p))
by_sign false p h fits other =
    let small : digits_of p < 2 ^ 63 = grind arith in
    let less : digits_of p < 2 ^ 64 = omega arith in
    rw (integer p h, lt-ltb _ _ less) (rw (lt-ltb _ _ small) refl)
by_sign true p h fits other =
    let some : 0 < digits_of p = grind (arith, other refl) in
    let small : digits_of p ≤ 2 ^ 63 = grind arith in
    rw (integer p h, lt-ltb _ _ some, le-leb _ _ small) refl

-- the whole number of a text whose sign and digits are these
pub whole_found : (text digits : List ℕ) (negative : Bool) (p : Parts) (n : ℤ) → number_of text ≡ number_from negative (scan digits)
    → p ≡ scan digits → IsInteger p → FitsSigned w64 (with_sign negative (digits_of p)) → n ≡ with_sign negative (digits_of p)
    → (negative ≡ true → n ≢ pos 0) → whole_number text ≡ Some n
whole_found text digits negative p n read scanned is fits same other =
    ap (option_and_then as_i64) (read ∙ ap (number_from negative) (sym scanned))
    ∙ by_sign negative p is fits (λ below zero. other below (same ∙ zero)) ∙ ap Some (sym same)

-- a text that begins with a minus
pub after_minus : (text : List ℕ) → slice_index text 0 ≡ 45
    → number_of text ≡ number_from true (scan (take (length text - 1) (drop 1 text)))
unfolding number_of
after_minus text first =
    let digits : take (length text - 1) (drop 1 text) ≡ drop 1 text = take_all _ (drop 1 text) (omega (arith, length-drop 1 text)) in
    rw (first, digits) refl

-- any other text
pub without_minus : (text : List ℕ) → slice_index text 0 ≢ 45 → number_of text ≡ number_from false (scan text)
unfolding number_of
without_minus text other =
    let unsigned : (slice_index text 0 == 45) ≡ false = grind (arith, common_steps) in
    rw unsigned refl

-- one more number after some
pub one_number_more : (texts : List (List ℕ)) (text : List ℕ) (numbers : List ℤ) (n : ℤ) → whole_numbers texts ≡ Some numbers
    → whole_number text ≡ Some n → whole_numbers (texts ++ text ∷ []) ≡ Some (numbers ++ n ∷ [])
one_number_more [] text numbers n are one = rw one (ap (λ ns. Some (ns ++ n ∷ [])) (some_inj are))
one_number_more (s ∷ texts) text numbers n are one =
    by_parts (whole_number s) (whole_numbers texts) refl refl (λ rest found. one_number_more texts text rest n found one)
  where
    by_parts : (m : Option ℤ) (r : Option (List ℤ)) → whole_number s ≡ m → whole_numbers texts ≡ r
        → ((rest : List ℤ) → whole_numbers texts ≡ Some rest → whole_numbers (texts ++ text ∷ []) ≡ Some (rest ++ n ∷ []))
        → whole_numbers (s ∷ texts ++ text ∷ []) ≡ Some (numbers ++ n ∷ [])
    by_parts None r e f more = absurd (cc)
    by_parts (Some m) None e f more = absurd (cc)
    by_parts (Some m) (Some rest) e f more =
        let read : Some (m ∷ rest) ≡ Some numbers = sym (rw (e, f) refl) ∙ are in
        rw (e, more rest f) (ap (λ ns. Some (ns ++ n ∷ [])) (some_inj read))

-- as many texts as numbers
pub as_many : (texts : List (List ℕ)) (numbers : List ℤ) → whole_numbers texts ≡ Some numbers → length texts ≡ length numbers
as_many [] numbers are = ap length (some_inj are)
as_many (s ∷ texts) numbers are = by_parts (whole_number s) (whole_numbers texts) refl refl (as_many texts)
  where
    by_parts : (m : Option ℤ) (r : Option (List ℤ)) → whole_number s ≡ m → whole_numbers texts ≡ r
        → ((rest : List ℤ) → whole_numbers texts ≡ Some rest → length texts ≡ length rest) → length (s ∷ texts) ≡ length numbers
    by_parts None r e f more = absurd (cc)
    by_parts (Some m) None e f more = absurd (cc)
    by_parts (Some m) (Some rest) e f more =
        let read : Some (m ∷ rest) ≡ Some numbers = sym (rw (e, f) refl) ∙ are in
        ap suc (more rest f) ∙ ap length (some_inj read)

-- a number of 64 bits, and the bits that represent it
pub from_bits : (z : ℤ) → to_z w64 (of_z w64 z) ≡ z → z ≡ to_z w64 (of_z w64 z)
from_bits z is = sym is
