-- The text after the letter of a word.
use Rattle.std.proofs.Common.{◌≡◌, ◌<◌, ◌+◌, ◌^◌, ◌++◌, ◌==◌, ℕ, suc, true, List, [], ◌∷◌, length, take, drop, Option, Some, None, refl, ap, ◌∙◌, subst, arith, length-append}
use Rattle.std.specs.Prelude.{slice_index, get_or, codes}
use Rattle.std.specs.Int.{IsInRange}
use Rattle.std.specs.Fmt.{decimal}
use Rattle.std.proofs.Math.Seq.{take-append_seam, get_or-append_seam}
use Rattle.std.proofs.Math.ListN.{get_or-append}
use Rattle.memchr.specs.Find.{IsFirstByte, is_byte}
use Rattle.sgt_notation.specs.Spellings.{IsItem, bracketed}
use Rattle.sgt_notation.proofs.NumberTexts.{text_is_digits}

-- after digits and the item in brackets: the position of the bracket
pub opens_at : (rest x : List ℕ) (t : ℕ) → t < 2 ^ 32 → rest ≡ decimal t ++ bracketed x → (o : Option ℕ) → IsFirstByte (is_byte 91) rest o
    → o ≡ Some (length (decimal t))
opens_at rest x t small is None nowhere = absurd (nowhere (length (decimal t)) (omega arith) inside here)
  where
    inside : length (decimal t) < length rest
    inside = omega (arith, ap length is, length-append (decimal t) (bracketed x), length-append x (93 ∷ []))

    here : (slice_index rest (length (decimal t)) == 91) ≡ true
    here = ap (λ l. slice_index l (length (decimal t)) == 91) is ∙ ap (λ b. b == 91) (get_or-append_seam (decimal t) 91 (x ++ 93 ∷ []) 0)
opens_at rest x t small is (Some k) (before, found) = ap Some (omega (arith, up, down))
  where
    inside : length (decimal t) < length rest
    inside = omega (arith, ap length is, length-append (decimal t) (bracketed x), length-append x (93 ∷ []))

    here : (slice_index rest (length (decimal t)) == 91) ≡ true
    here = ap (λ l. slice_index l (length (decimal t)) == 91) is ∙ ap (λ b. b == 91) (get_or-append_seam (decimal t) 91 (x ++ 93 ∷ []) 0)

    up : ¬ (length (decimal t) < k)
    up less = before.before (length (decimal t)) (omega arith) less here

    down : ¬ (k < length (decimal t))
    down less =
        let digit : IsInRange 48 57 (get_or (decimal t) k 0) = text_is_digits t (decimal t) small refl k less in
        let same : slice_index rest k ≡ get_or (decimal t) k 0 = ap (λ l. get_or l k 0) is
        ∙ get_or-append (decimal t) (bracketed x) 0 k less in
        grind (arith, digit, same, found)

-- the parts of the text after the letter
pub parts_after : (rest x : List ℕ) (t : ℕ) → rest ≡ decimal t ++ bracketed x
    → (take (length (decimal t)) rest ≡ decimal t) × (drop (suc (length (decimal t))) rest ≡ x ++ codes "]")
parts_after rest x t is = (
  ap (take (length (decimal t))) is ∙ take-append_seam (decimal t) (bracketed x),
  ap (drop (suc (length (decimal t)))) is ∙ past (decimal t),
)
  where
    past : (ds : List ℕ) → drop (suc (length ds)) (ds ++ 91 ∷ (x ++ codes "]")) ≡ x ++ codes "]"
    past [] = refl
    past (d ∷ ds) = past ds

-- a word that is an operation is one of four kinds
pub data IsKind (word : List ℕ) : Type 0 where
  IsRead : (t : ℕ) (x : List ℕ) → t < 2 ^ 32 → IsItem x → word ≡ 114 ∷ (decimal t ++ bracketed x) → IsKind word
  IsWrite : (t : ℕ) (x : List ℕ) → t < 2 ^ 32 → IsItem x → word ≡ 119 ∷ (decimal t ++ bracketed x) → IsKind word
  IsCommit : (t : ℕ) → t < 2 ^ 32 → word ≡ 99 ∷ decimal t → IsKind word
  IsAbort : (t : ℕ) → t < 2 ^ 32 → word ≡ 97 ∷ decimal t → IsKind word

-- the parts after the letter, split at the first bracket
pub after_letter : (rest x : List ℕ) (t k : ℕ) → t < 2 ^ 32 → rest ≡ decimal t ++ bracketed x → IsFirstByte (is_byte 91) rest (Some k)
    → (take k rest ≡ decimal t) × (drop (k + 1) rest ≡ x ++ codes "]")
after_letter rest x t k small is first =
    let at : Some k ≡ Some (length (decimal t)) = opens_at rest x t small is (Some k) first in
    let same : length (decimal t) ≡ k = cc in
    let next : suc (length (decimal t)) ≡ k + 1 = omega (arith, same) in
    let parts = parts_after rest x t is in
    (subst (λ i. take i rest ≡ decimal t) same parts.0, subst (λ i. drop i rest ≡ x ++ codes "]") next parts.1)
