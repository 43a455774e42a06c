-- Two lists item by item.
use Rattle.std.proofs.Common.{◌≡◌, ℕ, suc, ◌+◌, ◌<◌, List, [], ◌∷◌, length, get_or, drop, refl, sym, ap, ◌∙◌, add-one, drop-cons, arith}
use Rattle.std.specs.List.{AllZip}

pub same_length : {A B : Type 0} (R : A → B → Type 0) (xs : List A) (ys : List B) → AllZip R xs ys → length xs ≡ length ys
same_length R [] [] all = refl
same_length R [] (y ∷ ys) all = absurd all
same_length R (x ∷ xs) [] all = absurd all
same_length R (x ∷ xs) (y ∷ ys) all = let rest = same_length R xs ys all.1 in omega arith

rest_from : {A : Type 0} (xs : List A) (i : ℕ) (x : A) → i < length xs → x ≡ get_or xs i x → drop i xs ≡ x ∷ drop (i + 1) xs
rest_from xs i x within is = rw add-one (drop-cons xs i x within ∙ ap (λ y. y ∷ drop (suc i) xs) (sym is))

module _ {A B : Type 0} (R : A → B → Type 0) (xs : List A) (ys : List B) (i : ℕ) (x : A) (y : B) where
  pub zip_put : i < length xs → i < length ys → x ≡ get_or xs i x → y ≡ get_or ys i y → R x y
      → AllZip R (drop (i + 1) xs) (drop (i + 1) ys) → AllZip R (drop i xs) (drop i ys)
  zip_put in_xs in_ys is_x is_y r rest = rw (rest_from xs i x in_xs is_x, rest_from ys i y in_ys is_y) (r, rest)

  pub zip_cut : i < length xs → i < length ys → x ≡ get_or xs i x → y ≡ get_or ys i y → AllZip R (drop i xs) (drop i ys)
      → R x y × AllZip R (drop (i + 1) xs) (drop (i + 1) ys)
  zip_cut in_xs in_ys is_x is_y all = rw (rest_from xs i x in_xs is_x, rest_from ys i y in_ys is_y) at all
