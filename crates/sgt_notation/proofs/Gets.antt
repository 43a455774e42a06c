-- The items of a list at each position, and of a longer list with the same start.
use Rattle.std.proofs.Common.{◌≡◌, ◌<◌, ◌≤◌, ◌⊎◌, ℕ, zero, suc, List, [], ◌∷◌, ◌++◌, length, take, drop, Some, refl, ap, sym, ◌∙◌, inl, inr, arith, take_all}
use Rattle.std.specs.Prelude.{slice_get, min}
use Rattle.std.proofs.lemmas.Bool.{cases_lt}
use Rattle.std.specs.List.{AllZip}

pub get_before : {A : Type 0} (xs ys : List A) (i : ℕ) (z : A) → slice_get xs i ≡ Some z → slice_get (xs ++ ys) i ≡ Some z
get_before [] ys i z at = absurd (cc)
get_before (x ∷ xs) ys zero z at = at
get_before (x ∷ xs) ys (suc i) z at = get_before xs ys i z at

pub get_inside : {A : Type 0} (xs ys : List A) (i : ℕ) (z : A) → i < length xs → slice_get (xs ++ ys) i ≡ Some z → slice_get xs i ≡ Some z
get_inside [] ys i z less at = absurd (omega (arith, less))
get_inside (x ∷ xs) ys zero z less at = at
get_inside (x ∷ xs) ys (suc i) z less at = get_inside xs ys i z (omega (arith, less)) at

pub get_seam : {A : Type 0} (xs : List A) (y : A) (ys : List A) → slice_get (xs ++ y ∷ ys) (length xs) ≡ Some y
get_seam [] y ys = refl
get_seam (x ∷ xs) y ys = get_seam xs y ys

pub got_append : {A : Type 0} (xs : List A) (y z : A) (i : ℕ) → slice_get (xs ++ y ∷ []) i ≡ Some z
    → (slice_get xs i ≡ Some z) ⊎ ((i ≡ length xs) × (y ≡ z))
got_append [] y z zero at = inr (refl, cc)
got_append [] y z (suc i) at = absurd (cc)
got_append (x ∷ xs) y z zero at = inl at
got_append (x ∷ xs) y z (suc i) at = elim (got_append xs y z i at) [
  | inl before ↦ inl before
  | inr last ↦ inr (ap suc last.0, last.1)
]

pub zip_more : {A B : Type 0} (R : A → B → Type 0) (xs : List A) (ys : List B) (x : A) (y : B) → AllZip R xs ys → R x y
    → AllZip R (xs ++ x ∷ []) (ys ++ y ∷ [])
zip_more R [] [] x y all one = (one, tt)
zip_more R [] (b ∷ ys) x y all one = elim all [ ]
zip_more R (a ∷ xs) [] x y all one = elim all [ ]
zip_more R (a ∷ xs) (b ∷ ys) x y all one = (all.0, zip_more R xs ys x y all.1 one)

pub zip_map : {A B : Type 0} (R S : A → B → Type 0) (xs : List A) (ys : List B) → ((x : A) (y : B) → R x y → S x y) → AllZip R xs ys
    → AllZip S xs ys
zip_map R S [] [] f all = tt
zip_map R S [] (b ∷ ys) f all = elim all [ ]
zip_map R S (a ∷ xs) [] f all = elim all [ ]
zip_map R S (a ∷ xs) (b ∷ ys) f all = (f a b all.0, zip_map R S xs ys f all.1)

-- one taken more
pub take_next : {A : Type 0} (n : ℕ) (xs rest : List A) (y : A) → drop n xs ≡ y ∷ rest
    → (take (suc n) xs ≡ take n xs ++ y ∷ []) × (drop (suc n) xs ≡ rest) × (slice_get xs n ≡ Some y)
take_next zero [] rest y is = absurd (cc)
take_next zero (x ∷ xs) rest y is = (cc, cc, cc)
take_next (suc n) [] rest y is = absurd (cc)
take_next (suc n) (x ∷ xs) rest y is = let more = take_next n xs rest y is in (ap (λ l. x ∷ l) more.0, more.1, more.2)

-- all is taken if nothing is left
pub take_whole : {A : Type 0} (n : ℕ) (xs : List A) → drop n xs ≡ [] → take n xs ≡ xs
take_whole zero [] none = refl
take_whole zero (x ∷ xs) none = absurd (cc)
take_whole (suc n) [] none = refl
take_whole (suc n) (x ∷ xs) none = ap (λ l. x ∷ l) (take_whole n xs none)

-- the items taken of the first ones, if all of them are
pub take_first : {A : Type 0} (n k i : ℕ) (xs : List A) → k ≡ min n (length xs) → length (take k xs) ≤ i → take i (take k xs) ≡ take n xs
take_first n k i xs is whole = take_all i (take k xs) whole ∙ elim (cases_lt n (length xs)) [
  | inl less ↦ ap (λ j. take j xs) (omega (arith, is, less))
  | inr more ↦ take_all k xs (omega (arith, is, more)) ∙ sym (take_all n xs (omega (arith, more)))
]
