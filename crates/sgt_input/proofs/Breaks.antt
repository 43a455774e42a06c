-- Laws of newlines.
use Rattle.std.proofs.Common.{◌≡◌, ◌≢◌, ℕ, zero, suc, ◌+◌, ◌*◌, ◌<◌, ◌≤◌, Bool, true, false, cond, not, eqb, ltb, map, List, [], ◌∷◌, ◌++◌, length, take, get_or, refl, ap, sym, ◌∙◌, arith, suc-le-suc, lt-ltb, subst, ◌-◌, drop, inl, inr}
use Rattle.std.proofs.lemmas.Grind.{common_steps}
use Rattle.std.proofs.lemmas.Bool.Decides.{nat_tests}
use Rattle.std.proofs.Math.Seq.{take-add, take-append-add}
use Rattle.std.proofs.lemmas.List.{get_or-append-add, get_or-drop, drop-drop, length-append, length-drop, length-take}
use Rattle.std.specs.Prelude.{Option, None, Some, min, ◌⊎◌}
use Rattle.std.proofs.lemmas.Bool.{true≢false, eqb-true, eq-eqb, ltb-true, ltb-false}
use Rattle.std.specs.Option.{option_map, option_map_or}
use lib.Count.{count_trailing_zeros}
use lib.Lanes.{chunk, mask_l}
use Rattle.std.specs.List.{prefix_len}
use Rattle.std.proofs.lemmas.Simd.{length-chunk, run_in_chunk_fails, run_in_chunk_stops, trailing_mask_l}
use Rattle.memchr.specs.Find.{IsFirstByte, IsLastByte, NoneBefore, Passes, is_byte}
use Rattle.sgt_input.specs.Lines.{has_break, AreWhole, IsBreak}

-- no newline in either of two lists of bytes
pub no_break-append : (xs ys : List ℕ) → has_break xs ≡ false → has_break ys ≡ false → has_break (xs ++ ys) ≡ false
no_break-append [] ys first second = second
no_break-append (x ∷ xs) ys first second = grind (arith, nat_tests, no_break-append xs ys)

-- a newline among the first n bytes, or at index n
pub has_break-at : (bytes : List ℕ) (n : ℕ) → n < length bytes → get_or bytes n 0 ≡ 10 → has_break bytes ≡ true
has_break-at [] n inside ten = absurd (omega arith)
has_break-at (x ∷ xs) zero inside ten = grind (arith, nat_tests)
has_break-at (x ∷ xs) (suc n) inside ten = grind (arith, nat_tests, has_break-at xs n)

-- no newline among fewer bytes
pub no_break-fewer : (m n : ℕ) (bytes : List ℕ) → m ≤ n → has_break (take n bytes) ≡ false → has_break (take m bytes) ≡ false
no_break-fewer zero n bytes fewer none = refl
no_break-fewer (suc m) zero bytes fewer none = absurd (omega arith)
no_break-fewer (suc m) (suc n) [] fewer none = refl
no_break-fewer (suc m) (suc n) (x ∷ xs) fewer none = grind (arith, nat_tests, no_break-fewer m n xs)

-- if no line of the greatest length ends, the bytes begin with a line that is too long
pub long-none : (within : ℕ) (held : List ℕ) → has_break (take within held) ≡ false → 65536 < length held → 65536 < within
    → has_break (take 65537 held) ≡ false
long-none within held none long inside = no_break-fewer 65537 within held (omega arith) none

-- the same if the first line ends after that length
pub long-found : (within n : ℕ) (held : List ℕ) → IsBreak (take within held) (Some n) → 65536 < n
    → (has_break (take 65537 held) ≡ false) × (65536 < length held) × (65536 < within)
long-found within n held at long =
    let inside : n < within = grind (arith, common_steps, at.0) in
    let few : n < length held = grind (arith, common_steps, at.0) in
    let same : take n (take within held) ≡ take n held = grind (arith, common_steps, inside) in
    (no_break-fewer 65537 n held long (ap has_break (sym same) ∙ at.2), omega arith, omega arith)

-- no newline among bytes none of which is 10
no_break-each : (bytes : List ℕ) → ((k : ℕ) → k < length bytes → get_or bytes k 0 ≢ 10) → has_break bytes ≡ false
no_break-each [] other = refl
no_break-each (x ∷ xs) other = grind (arith, nat_tests, other 0, no_break-each xs (λ k inside. other (suc k) (suc-le-suc inside)))

-- the first newline after bytes none of which is 10
pub break-following : (front bytes : List ℕ) (found : Option ℕ) → has_break front ≡ false → IsFirstByte (is_byte 10) bytes found
    → IsBreak (front ++ bytes) (option_map (λ n. length front + n) found)
break-following front bytes None none first =
    no_break-append front bytes none (no_break-each bytes (λ k inside ten. first k (omega arith) inside (eq-eqb _ 10 ten)))
break-following front bytes (Some n) none first = (
  omega (arith, length-append front bytes, first.0.high),
  get_or-append-add front bytes n 0 ∙ eqb-true _ 10 first.1,
  ap has_break (take-append-add front bytes n) ∙ no_break-append front (take n bytes) none
      (no_break-each (take n bytes) (λ k inside ten. grind (arith, common_steps, first.0.before k, eq-eqb (get_or bytes k 0) 10))),
)

-- the same in a part of the bytes
pub break-within : (bytes : List ℕ) (from within stop : ℕ) (found : Option ℕ) → stop ≡ min within (length bytes) → from ≤ within
    → from ≤ length bytes → has_break (take from bytes) ≡ false → IsFirstByte (is_byte 10)
    (take (stop - from) (drop from bytes)) found → IsBreak (take within bytes) (option_map (λ n. from + n) found)
break-within bytes from within stop found is inside fits none first =
    let size : length (take from bytes) ≡ from = grind (arith, common_steps) in
    let whole : take from bytes ++ take (stop - from) (drop from bytes) ≡ take within bytes =
    sym (take-add from (stop - from) bytes) ∙ grind (arith, common_steps) in
    subst (λ n. IsBreak (take within bytes) (option_map (λ k. n + k) found)) size
    (subst (λ xs. IsBreak xs (option_map (λ k. length (take from bytes) + k) found)) whole
    (break-following (take from bytes) (take (stop - from) (drop from bytes)) found none first))

-- the first newline of the first bytes
pub break-first : (bytes : List ℕ) (within stop : ℕ) (found : Option ℕ) → stop ≡ min within (length bytes)
    → IsFirstByte (is_byte 10) (take stop bytes) found → IsBreak (take within bytes) found
break-first bytes within stop found is first =
    let all : stop ≡ stop - 0 = omega arith in
    same found (break-within bytes 0 within stop found is (omega arith) (omega arith) refl
    (subst (λ k. IsFirstByte (is_byte 10) (take k bytes) found) all first))
  where
    same : (found : Option ℕ) → IsBreak (take within bytes) (option_map (λ n. 0 + n) found) → IsBreak (take within bytes) found
    same None at = at
    same (Some n) at =
        let none : 0 + n ≡ n = omega arith in
        subst (λ m. IsBreak (take within bytes) (Some m)) none at

-- where a bit is set, some lane passes
marked : (p : ℕ → Bool) (xs : List ℕ) → 0 < mask_l (map p xs) → prefix_len (λ x. not (p x)) xs < length xs
marked p [] some = absurd (omega (arith, some))
marked p (x ∷ xs) some = by (p x) some (marked p xs)
  where
    by : (b : Bool) → 0 < cond b 1 0 + 2 * mask_l (map p xs)
        → (0 < mask_l (map p xs) → prefix_len (λ x. not (p x)) xs < length xs)
        → cond (not b) (1 + prefix_len (λ x. not (p x)) xs) 0 < length (x ∷ xs)
    by true some later = omega arith
    by false some later = omega (arith, later (omega (arith, some)))

-- the first newline among 32 bytes is at their lowest mark
pub first-marked : (bytes : List ℕ) (from n : ℕ) → from + 32 ≤ length bytes
    → 0 < mask_l (map (λ x. eqb x 10) (chunk from 32 bytes))
    → n ≡ count_trailing_zeros 64 (mask_l (map (λ x. eqb x 10) (chunk from 32 bytes)))
    → NoneBefore (Passes (is_byte 10) bytes) from (from + 32) (from + n) × Passes (is_byte 10) bytes (from + n)
first-marked bytes from n fits some is =
    let p = λ (x : ℕ). eqb x 10 in
    let v = chunk from 32 bytes in
    let long : length v ≡ 32 = length-chunk from 32 bytes fits in
    let counted : n ≡ prefix_len (λ x. not (p x)) v = is ∙ trailing_mask_l p 64 v (omega (arith, long)) some in
    let few : n < 32 = omega (arith, counted, long, marked p v some) in (
      record {
        low = omega arith;
        high = omega (arith, few);
        before = λ k low high ten. true≢false (sym ten ∙ run_in_chunk_fails p bytes from 32 n 0 fits counted k low high);
      },
      run_in_chunk_stops p bytes from 32 n 0 fits counted few,
    )

-- among the first bytes
pub first-marked-here : (bytes : List ℕ) (n : ℕ) → 32 ≤ length bytes
    → 0 < mask_l (map (λ x. eqb x 10) (chunk 0 32 bytes))
    → n ≡ count_trailing_zeros 64 (mask_l (map (λ x. eqb x 10) (chunk 0 32 bytes)))
    → NoneBefore (Passes (is_byte 10) bytes) 0 32 n × Passes (is_byte 10) bytes n
first-marked-here bytes n fits some is =
    let none : 0 + n ≡ n = omega arith in
    subst (λ m. NoneBefore (Passes (is_byte 10) bytes) 0 32 m × Passes (is_byte 10) bytes m) none (first-marked bytes 0 n fits some is)

-- the first newline within the limit, if it is near and none is before
pub break-near : (bytes : List ℕ) (from within stop n : ℕ) → stop ≡ min within (length bytes) → from + 32 ≤ stop
    → has_break (take from bytes) ≡ false → NoneBefore (Passes (is_byte 10) bytes) from (from + 32) n
    → Passes (is_byte 10) bytes n → IsBreak (take within bytes) (Some n)
break-near bytes from within stop n is fits none first ten =
    let inside : n < within = omega (arith, is, first.high) in
    let few : n < length bytes = omega (arith, is, first.high) in
    let same : (k : ℕ) → k ≤ n → get_or (take within bytes) k 0 ≡ get_or bytes k 0 = λ k low. grind (arith, common_steps, inside) in (
      grind (arith, common_steps, inside, few),
      same n (omega arith) ∙ eqb-true _ 10 ten,
      no_break-each (take n (take within bytes)) (λ k below is-ten. by k (omega (arith, length-take n (take within bytes)))
          (sym (same k (omega (arith, length-take n (take within bytes)))) ∙ grind (arith, common_steps, is-ten))),
    )
  where
    by : (k : ℕ) → k < n → get_or bytes k 0 ≢ 10
    by k below = by-place (ltb k from) refl
      where
        by-place : (b : Bool) → ltb k from ≡ b → get_or bytes k 0 ≢ 10
        by-place true e is-ten = true≢false (sym (has_break-at (take from bytes) k (grind (arith, common_steps, ltb-true k from e))
            (grind (arith, common_steps, ltb-true k from e))) ∙ none)
        by-place false e is-ten = first.before k (omega (arith, ltb-false k from e)) below (eq-eqb _ 10 is-ten)

-- ---- whole lines

-- a newline after the first m bytes
break-following-none : (m n : ℕ) (bytes : List ℕ) → has_break (drop m bytes) ≡ false → n < length bytes → get_or bytes n 0 ≡ 10 → n < m
break-following-none zero n bytes none inside ten = absurd (true≢false (sym (has_break-at bytes n inside ten) ∙ none))
break-following-none (suc m) zero bytes none inside ten = omega arith
break-following-none (suc m) (suc n) [] none inside ten = absurd (omega arith)
break-following-none (suc m) (suc n) (x ∷ bytes) none inside ten = omega (arith, break-following-none m n bytes none (omega arith) ten)

-- the first newline is in the whole lines
pub break-whole : (bytes : List ℕ) (n k : ℕ) → AreWhole bytes n → IsBreak bytes (Some k) → k < n
break-whole bytes n k are at = break-following-none n k bytes are.1 at.0 at.1

-- some lines are whole exactly if there is a newline
pub whole-some : (bytes : List ℕ) (n : ℕ) → AreWhole bytes n → 0 < n → has_break bytes ≡ true
whole-some bytes n (inside, none, inl empty) some = absurd (omega arith)
whole-some bytes n (inside, none, inr ten) some = has_break-at bytes (n - 1) (omega arith) ten

pub whole-none : (bytes : List ℕ) (n : ℕ) → AreWhole bytes n → n ≡ 0 → has_break bytes ≡ false
whole-none bytes n are empty = ap (λ k. has_break (drop k bytes)) (sym empty) ∙ are.1

pub whole-is : (bytes : List ℕ) (n : ℕ) → AreWhole bytes n → ltb 0 n ≡ has_break bytes
whole-is bytes zero are = sym (whole-none bytes zero are refl)
whole-is bytes (suc n) are = lt-ltb 0 (suc n) (omega arith) ∙ sym (whole-some bytes (suc n) are (omega arith))

pub whole-zero : (bytes : List ℕ) (n : ℕ) → AreWhole bytes n → has_break bytes ≡ false → n ≡ 0
whole-zero bytes zero are none = refl
whole-zero bytes (suc n) are none = absurd (true≢false (sym (whole-some bytes (suc n) are (omega arith)) ∙ none))

-- after the first line
pub whole-following : (bytes : List ℕ) (n k : ℕ) → AreWhole bytes n → IsBreak bytes (Some k) → AreWhole (drop (k + 1) bytes) (n - (k + 1))
whole-following bytes n k are at =
    let before : k < n = break-whole bytes n k are at in
    let back : k + 1 + (n - (k + 1)) ≡ n = omega (arith, before) in (
      omega (arith, length-drop (k + 1) bytes, are.0),
      ap has_break (drop-drop (n - (k + 1)) (k + 1) bytes ∙ ap (λ m. drop m bytes) back) ∙ are.1,
      last (are.2) back,
    )
  where
    last : (n ≡ 0) ⊎ (get_or bytes (n - 1) 0 ≡ 10) → k + 1 + (n - (k + 1)) ≡ n
        → (n - (k + 1) ≡ 0) ⊎ (get_or (drop (k + 1) bytes) (n - (k + 1) - 1) 0 ≡ 10)
    last (inl empty) back = inl (omega (arith, empty))
    last (inr ten) back = by (n - (k + 1)) refl
      where
        by : (m : ℕ) → m ≡ n - (k + 1) → (m ≡ 0) ⊎ (get_or (drop (k + 1) bytes) (m - 1) 0 ≡ 10)
        by zero is = inl refl
        by (suc m) is = inr (ap (λ i. get_or (drop (k + 1) bytes) i 0) (omega arith) ∙ get_or-drop (k + 1) bytes m 0 ∙ ap (λ i. get_or bytes i 0) (omega (arith, is, back)) ∙ ten)

drop-front : (front bytes : List ℕ) (n : ℕ) → drop (length front + n + 1) (front ++ bytes) ≡ drop (n + 1) bytes
drop-front [] bytes n = ap (λ k. drop k bytes) (omega arith)
drop-front (x ∷ xs) bytes n =
    let more : length (x ∷ xs) + n + 1 ≡ suc (length xs + n + 1) = omega arith in
    ap (λ k. drop k (x ∷ (xs ++ bytes))) more ∙ drop-front xs bytes n

-- the last newline among bytes after some that have none
pub whole-last : (front bytes : List ℕ) (found : Option ℕ) → has_break front ≡ false → IsLastByte (is_byte 10) bytes found
    → AreWhole (front ++ bytes) (option_map_or (λ n. length front + n + 1) found 0)
whole-last front bytes None none last = (
  omega arith,
  no_break-append front bytes none (no_break-each bytes (λ k inside ten. last k (omega arith) inside (eq-eqb _ 10 ten))),
  inl refl,
)
whole-last front bytes (Some n) none last =
    let inside : n < length bytes = last.0.high in
    let following : drop (length front + n + 1) (front ++ bytes) ≡ drop (n + 1) bytes = drop-front front bytes n in (
      omega (arith, length-append front bytes, inside),
      ap has_break following ∙ no_break-each (drop (n + 1) bytes) (λ k fits ten. last.0.after (n + 1 + k) (omega arith)
          (omega (arith, length-drop (n + 1) bytes, fits)) (eq-eqb _ 10 (sym (get_or-drop (n + 1) bytes k 0) ∙ ten))),
      inr (ap (λ i. get_or (front ++ bytes) i 0) (omega arith) ∙ get_or-append-add front bytes n 0 ∙ eqb-true _ 10 last.1),
    )

-- the same in a part of the bytes
pub whole-within : (bytes : List ℕ) (from within stop : ℕ) (found : Option ℕ) → stop ≡ min within (length bytes) → from ≤ within
    → from ≤ length bytes → has_break (take from bytes) ≡ false → IsLastByte (is_byte 10)
    (take (stop - from) (drop from bytes)) found → AreWhole (take within bytes) (option_map_or (λ n. from + n + 1) found 0)
whole-within bytes from within stop found is inside fits none last =
    let size : length (take from bytes) ≡ from = grind (arith, common_steps) in
    let whole : take from bytes ++ take (stop - from) (drop from bytes) ≡ take within bytes =
    sym (take-add from (stop - from) bytes) ∙ grind (arith, common_steps) in
    subst (λ n. AreWhole (take within bytes) (option_map_or (λ k. n + k + 1) found 0)) size
    (subst (λ xs. AreWhole xs (option_map_or (λ k. length (take from bytes) + k + 1) found 0)) whole
    (whole-last (take from bytes) (take (stop - from) (drop from bytes)) found none last))

-- if 64 bytes are whole lines, that many are held and within the limit
pub whole-wide : (held : List ℕ) (within n : ℕ) → AreWhole (take within held) n → 64 ≤ n → (64 ≤ length held) × (64 ≤ within)
whole-wide held within n are wide =
    (omega (arith, are.0, length-take within held), omega (arith, are.0, length-take within held))
