-- One byte more.
use Rattle.std.proofs.Common.{◌≡◌, ◌++◌, ◌+◌, ◌&&◌, ℕ, Bool, true, false, cond, suc, List, [], ◌∷◌, length, length-append, add_assoc, add-zero, refl, sym, ap, ◌∙◌, append_assoc, arith}
use Rattle.std.proofs.lemmas.Grind.{common_steps}
use Rattle.sgt_edn.specs.declared.scan.Scan.{Scan}
use Rattle.sgt_edn.specs.Scans.{after_in, token_in, text_in, text_from, size_from}

pub step : (old new t u : List ℕ) (s r : Scan) (x : ℕ) (xs whole : List ℕ) → new ≡ old ++ text_in s.mode s t x
    → u ≡ token_in s.mode t x → r ≡ after_in s.mode s x → old ++ text_from s t (x ∷ xs) ≡ whole → new ++ text_from r u xs ≡ whole
step old new t u s r x xs whole text token scan is =
    ap (λ ys. ys ++ text_from r u xs) text
    ∙ append_assoc old (text_in s.mode s t x) (text_from r u xs)
    ∙ ap (λ q. old ++ (text_in s.mode s t x ++ text_from q u xs)) scan
    ∙ ap (λ v. old ++ (text_in s.mode s t x ++ text_from (after_in s.mode s x) v xs)) token
    ∙ is

-- the same of sizes
pub size_step : (old new t u : List ℕ) (s r : Scan) (x : ℕ) (xs : List ℕ) (whole : ℕ) → new ≡ old ++ text_in s.mode s t x
    → u ≡ token_in s.mode t x → r ≡ after_in s.mode s x → whole ≡ length old + size_from s t (x ∷ xs) → whole ≡ length new + size_from r u xs
size_step old new t u s r x xs whole text token scan is =
    is
    ∙ sym (add_assoc (length old) (length (text_in s.mode s t x)) (size_from (after_in s.mode s x) (token_in s.mode t x) xs))
    ∙ ap (λ n. n + size_from (after_in s.mode s x) (token_in s.mode t x) xs) (sym (length-append old (text_in s.mode s t x)) ∙ ap length (sym text))
    ∙ ap (λ q. length new + size_from q (token_in s.mode t x) xs) (sym scan)
    ∙ ap (λ v. length new + size_from r v xs) (sym token)

-- the size after one more byte
pub size_after : (old new t : List ℕ) (s : Scan) (x size : ℕ) → new ≡ old ++ text_in s.mode s t x → size ≡ length old + size_from s t (x ∷ [])
    → size ≡ length new
size_after old new t s x size text is =
    is
    ∙ ap (λ n. length old + n) (add-zero (length (text_in s.mode s t x)))
    ∙ sym (length-append old (text_in s.mode s t x)) ∙ ap length (sym text)

-- an index of a longer beginning
pub shift : (f : ℕ → ℕ) (k j n : ℕ) → f (k + suc j) ≡ n → f (k + 1 + j) ≡ n
shift f k j n is =
    let same : k + 1 + j ≡ k + suc j = grind (arith, common_steps) in
    ap f same ∙ is

pub and_true : (b c : Bool) → b ≡ true → (b && c) ≡ c
and_true true c is = refl
and_true false c is = absurd (cc)

pub and_false : (b c : Bool) → b ≡ false → (b && c) ≡ false
and_false true c is = absurd (cc)
and_false false c is = refl

pub if_true : (b x y : Bool) → b ≡ true → cond b x y ≡ x
if_true true x y is = refl
if_true false x y is = absurd (cc)

pub if_false : (b x y : Bool) → b ≡ false → cond b x y ≡ y
if_false true x y is = absurd (cc)
if_false false x y is = refl
