-- Numbers that count up.
use Rattle.std.proofs.Common.{◌≡◌, ℕ, zero, suc, ◌+◌, ◌<◌, Bool, true, false, cond, List, [], ◌∷◌, ◌++◌, length, Some, slice_get, refl, sym, ap, inl, inr, ◌∙◌, arith}
use Rattle.std.proofs.lemmas.Bool.{cases_lt}
use Rattle.std.proofs.lemmas.List.{length-append}
use Rattle.sgt_session.specs.Numbers.{counted, numbers_of}

kept : {X : Type 0} (xs ys : List X) (k : ℕ) → k < length xs → slice_get (xs ++ ys) k ≡ slice_get xs k
kept [] ys k h = absurd (omega (arith, h))
kept (x ∷ xs) ys zero h = refl
kept (x ∷ xs) ys (suc k) h = kept xs ys k (omega (arith, h))

at-the-end : {X : Type 0} (xs : List X) (x : X) → slice_get (xs ++ x ∷ []) (length xs) ≡ Some x
at-the-end [] x = refl
at-the-end (y ∷ xs) x = at-the-end xs x

pub counted-length : (first n : ℕ) → length (counted first n) ≡ n
counted-length first zero = refl
counted-length first (suc n) =
    let long = length-append (counted first n) ((first + n) ∷ []) in
    let before = counted-length first n in omega (arith, long, before)

-- the number at an index
pub counted-at : (first n k : ℕ) → k < n → slice_get (counted first n) k ≡ Some (first + k)
counted-at first zero k h = absurd (omega (arith, h))
counted-at first (suc n) k h = elim (cases_lt k n) [
  | inl less ↦ kept (counted first n) ((first + n) ∷ []) k (omega (arith, less, counted-length first n)) ∙ counted-at first n k less
  | inr last ↦
      let here : k ≡ n = omega (arith, h, last) in
      let end : k ≡ length (counted first n) = omega (arith, here, counted-length first n) in
      ap (slice_get (counted first n ++ (first + n) ∷ [])) end ∙ at-the-end (counted first n) (first + n)
      ∙ ap (λ m. Some (first + m)) (sym here)
]

pub numbers-length : (is_listed : Bool) (listed : List ℕ) (first count : ℕ) → length listed ≡ cond is_listed count 0
    → length (numbers_of is_listed listed first count) ≡ count
numbers-length true listed first count is = is
numbers-length false listed first count is = counted-length first count
