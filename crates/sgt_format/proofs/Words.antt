-- Words at the front of a line, compared eight bytes at once.
use Rattle.std.proofs.Common.{◌≡◌, ◌≤◌, ◌<◌, ◌+◌, ◌-◌, ◌*◌, ◌^◌, ◌%◌, Bool, true, false, cond, eqb, ℕ, map, List, [], ◌∷◌, ◌++◌, length, take, drop, refl, ap, sym, ◌∙◌, arith, w8}
use Rattle.std.specs.Prelude.{slice_index}
use lib.Lanes.{zip2, mask_l, chunk, top}
use mir.Val.{bits, hbits}
use native.Mathlib.Nat.{two-pow-succ}
use Rattle.std.proofs.lemmas.Bool.{eqb-true}
use Rattle.std.proofs.lemmas.Simd.{tops_compared, mask_l-mod, length-zip2}
use Rattle.std.proofs.lemmas.List.{take-append-drop, length-take-le, drop_more, append_assoc}
use lib.Seq.{drop-append_seam}

-- lists whose items are all marked as equal
all_marked : (xs ys : List ℕ) → length xs ≡ length ys → mask_l (zip2 eqb xs ys) + 1 ≡ 2 ^ length xs → xs ≡ ys
all_marked [] [] same full = refl
all_marked [] (y ∷ ys) same full = absurd (omega arith)
all_marked (x ∷ xs) [] same full = absurd (omega arith)
all_marked (x ∷ xs) (y ∷ ys) same full = by (eqb x y) refl full (λ all. all_marked xs ys (omega (arith, same)) all)
  where
    by : (b : Bool) → eqb x y ≡ b → (cond b 1 0 + 2 * mask_l (zip2 eqb xs ys)) + 1 ≡ 2 ^ length (x ∷ xs)
        → (mask_l (zip2 eqb xs ys) + 1 ≡ 2 ^ length xs → xs ≡ ys) → x ∷ xs ≡ y ∷ ys
    by true is all rest =
        ap (λ z. z ∷ xs) (eqb-true x y is) ∙ ap (λ zs. y ∷ zs) (rest (omega (arith, all, two-pow-succ (length xs))))
    by false is all rest = absurd (omega (arith, all, two-pow-succ (length xs)))

-- eight bytes that are compared at once
pub same_word : (text words : List ℕ) → 8 ≤ length text → 8 ≤ length words
    → mask_l (map (top (hbits w8)) (zip2 (λ a b. cond (eqb a b) (2 ^ bits w8 - 1) 0) (chunk 0 8 text) (chunk 0 8 words))) % 2 ^ 64 ≡ 255
    → take 8 text ≡ take 8 words
same_word text words long long_words marks =
    let of_text : length (take 8 text) ≡ 8 = length-take-le 8 text long in
    let of_words : length (take 8 words) ≡ 8 = length-take-le 8 words long_words in
    let as_many : length (zip2 eqb (take 8 text) (take 8 words))
    ≡ 8 = grind (arith, of_text, of_words, length-zip2 eqb (take 8 text) (take 8 words)) in
    let mask : mask_l (zip2 eqb (take 8 text) (take 8 words)) ≡ 255 =
    sym (mask_l-mod (zip2 eqb (take 8 text) (take 8 words)) 64 (omega (arith, as_many)))
    ∙ sym (ap (λ ms. mask_l ms % 2 ^ 64) (tops_compared w8 eqb (take 8 text) (take 8 words))) ∙ marks in
    all_marked (take 8 text) (take 8 words) (of_text ∙ sym of_words) (ap (λ n. n + 1) mask ∙ sym (ap (λ n. 2 ^ n) of_text))

-- a line that begins with a word of eight bytes, and then with the rest of the words
pub words_first : (line words rest : List ℕ) → take 8 line ≡ take 8 words → drop 8 line ≡ drop 8 words ++ rest
    → line ≡ words ++ rest
words_first line words rest word following =
    sym (take-append-drop 8 line) ∙ ap (λ front. front ++ drop 8 line) word ∙ ap (λ more. take 8 words ++ more) following
    ∙ sym (append_assoc (take 8 words) (drop 8 words) rest) ∙ ap (λ all. all ++ rest) (take-append-drop 8 words)

-- what follows a front
pub after_front : (front rest line : List ℕ) → line ≡ front ++ rest → drop (length front) line ≡ rest
after_front front rest line is = ap (drop (length front)) is ∙ drop-append_seam front rest

-- a text from an index on
pub one_then : (line : List ℕ) (at : ℕ) (byte : ℕ) → at < length line → slice_index line at ≡ byte
    → drop at line ≡ byte ∷ drop (at + 1) line
one_then line at byte within is = drop_more line at 0 within ∙ ap (λ b. b ∷ drop (at + 1) line) is
