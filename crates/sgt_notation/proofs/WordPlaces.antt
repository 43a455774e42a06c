-- Words, byte by byte.
use Rattle.std.proofs.Common.{◌≡◌, ◌<◌, ◌≤◌, ◌+◌, ◌-◌, ℕ, zero, suc, Bool, true, false, ◌||◌, if◌then◌else◌, List, [], ◌∷◌, length, take, drop, refl, ap, sym, ◌∙◌, subst, arith, length-drop}
use Rattle.std.specs.Prelude.{slice_index}
use Rattle.std.proofs.lemmas.Grind.{common_steps}
use Rattle.std.proofs.lemmas.List.{get_or-drop}
use Rattle.sgt_notation.specs.Words.{words, parts_words, is_break, is_space, is_hash, begin_word, in_front}

-- the choice among four if no test holds
none_holds : {A : Type 0} (x y z : Bool) (p q r s : A) → (x || (y || z)) ≡ false
    → (if x then p else if false || z then q else if y then r else s) ≡ s
none_holds false false false p q r s h = refl
none_holds _ _ _ p q r s h = absurd (cc)

-- the words of bytes that start with one of a word
in_word : (n b : ℕ) (bs : List ℕ) → parts_words b ≡ false → words false n (b ∷ bs) ≡ begin_word n b bs (words false n bs)
in_word n b bs plain = none_holds (is_break b) (is_space b) (is_hash b) _ _ _ _ plain

-- the first word of bytes on line n, which has k of them
pub first_word : (n k : ℕ) (bs : List ℕ) → 0 < k → k ≤ length bs → ((i : ℕ) → i < k → parts_words (slice_index bs i) ≡ false)
    → (k < length bs → parts_words (slice_index bs k) ≡ true)
    → words false n bs ≡ record { line = n; text = take k bs } ∷ words false n (drop k bs)
first_word n zero bs some bounds inside ends = absurd (omega (arith, some))
first_word n (suc k) [] some bounds inside ends = absurd (omega (arith, bounds))
first_word n (suc zero) (b ∷ []) some bounds inside ends = in_word n b [] (inside 0 (omega arith))
first_word n (suc zero) (b ∷ c ∷ cs) some bounds inside ends =
    in_word n b (c ∷ cs) (inside 0 (omega arith)) ∙ rw (ends (omega arith)) refl
first_word n (suc (suc k)) (b ∷ []) some bounds inside ends = absurd (omega (arith, bounds))
first_word n (suc (suc k)) (b ∷ c ∷ cs) some bounds inside ends =
    let plain : parts_words c ≡ false = inside 1 (omega arith) in
    let rest = first_word n (suc k) (c ∷ cs) (omega arith) (omega (arith, bounds)) (λ i less. inside (suc i) (omega (arith, less)))
    (λ less. ends (omega (arith, less))) in
    in_word n b (c ∷ cs) (inside 0 (omega arith)) ∙ rw plain (ap (in_front b) rest)

-- the word from one position to another
pub word_between : (n from end : ℕ) (text : List ℕ) → from < end → end ≤ length text
    → ((i : ℕ) → from ≤ i → i < end → parts_words (slice_index text i) ≡ false)
    → (end < length text → parts_words (slice_index text end) ≡ true)
    → words false n (drop from text)
    ≡ record { line = n; text = take (end - from) (drop from text) } ∷ words false n (drop end text)
word_between n from end text less bounds inside ends =
    let further : drop (end - from) (drop from text) ≡ drop end text = grind (arith, common_steps) in
    subst (λ l. words false n (drop from text) ≡ record { line = n; text = take (end - from) (drop from text) } ∷ words false n l) further
    (first_word n (end - from) (drop from text) (omega (arith, less)) (omega (arith, less, bounds, length-drop from text)) in_it at_end)
  where
    in_it : (i : ℕ) → i < end - from → parts_words (slice_index (drop from text) i) ≡ false
    in_it i h = subst (λ b. parts_words b ≡ false) (sym (get_or-drop from text i 0)) (inside (from + i) (omega arith) (omega (arith, h)))

    at_end : end - from < length (drop from text) → parts_words (slice_index (drop from text) (end - from)) ≡ true
    at_end h =
        let same : from + (end - from) ≡ end = omega (arith, less) in
        subst (λ b. parts_words b ≡ true)
        (sym (get_or-drop from text (end - from) 0 ∙ ap (λ k. slice_index text k) same)) (ends (omega (arith, h, length-drop from text)))
