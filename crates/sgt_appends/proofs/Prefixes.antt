-- Prefixes of lists.
use Rattle.std.proofs.Common.{◌≡◌, ◌++◌, ◌⊎◌, ◌∙◌, ℕ, List, [], ◌∷◌, length, take, refl, sym, ap, inl, inr}
use Rattle.sgt_appends.specs.Lists.{IsPrefix}

pub take_front : (xs ys : List ℕ) → take (length xs) (xs ++ ys) ≡ xs
take_front [] [] = refl
take_front [] (y ∷ ys) = refl
take_front (x ∷ xs) ys = ap (λ l. x ∷ l) (take_front xs ys)

-- of two prefixes of a list one is a prefix of the other
pub comparable : (xs a b c d : List ℕ) → xs ≡ a ++ b → xs ≡ c ++ d → IsPrefix a c ⊎ IsPrefix c a
comparable xs [] b c d one other = inl (c, refl)
comparable xs (x ∷ a) b [] d one other = inr (x ∷ a, refl)
comparable [] (x ∷ a) b (y ∷ c) d one other = absurd (cc)
comparable (z ∷ xs) (x ∷ a) b (y ∷ c) d one other =
    let heads : x ≡ y = sym (head_is x (a ++ b) one) ∙ head_is y (c ++ d) other in
    elim (comparable xs a b c d (tail_is x (a ++ b) one) (tail_is y (c ++ d) other)) [
      | inl w ↦ inl (w.0, ap (λ n. n ∷ c) (sym heads) ∙ ap (λ l. x ∷ l) w.1)
      | inr w ↦ inr (w.0, ap (λ n. n ∷ a) heads ∙ ap (λ l. y ∷ l) w.1)
    ]
  where
    head_is : (n : ℕ) (rest : List ℕ) → z ∷ xs ≡ n ∷ rest → z ≡ n
    head_is n rest e = cc

    tail_is : (n : ℕ) (rest : List ℕ) → z ∷ xs ≡ n ∷ rest → xs ≡ rest
    tail_is n rest e = cc
