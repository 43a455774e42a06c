-- Subsequences of a list that grows at its end.
use Rattle.std.proofs.Common.{inl, inr, ⊎_elim, List, [], ◌∷◌, ◌++◌, refl, ap, sym, subst}
use Rattle.sgt_dispatch.specs.Subsequences.{IsSubsequence}

module _ {A : Type 0} where
  pub IsSubsequence-nil : (ys : List A) → IsSubsequence [] ys
  IsSubsequence-nil [] = refl
  IsSubsequence-nil (y ∷ ys) = inl (IsSubsequence-nil ys)

  -- with more after the list
  pub IsSubsequence-append : (xs ys zs : List A) → IsSubsequence xs ys → IsSubsequence xs (ys ++ zs)
  IsSubsequence-append xs [] zs s = subst (λ (l : List A). IsSubsequence l zs) (sym s) (IsSubsequence-nil zs)
  IsSubsequence-append xs (y ∷ ys) zs s = ⊎_elim (λ t. inl (IsSubsequence-append xs ys zs t))
      (λ t. inr (t.0, t.1, IsSubsequence-append t.0 ys zs t.2)) s

  -- with one more at the end of both
  pub IsSubsequence-push : (xs ys : List A) (x : A) → IsSubsequence xs ys → IsSubsequence (xs ++ x ∷ []) (ys ++ x ∷ [])
  IsSubsequence-push xs [] x s = inr ([], ap (λ (l : List A). l ++ x ∷ []) s, refl)
  IsSubsequence-push xs (y ∷ ys) x s = ⊎_elim (λ t. inl (IsSubsequence-push xs ys x t))
      (λ t. inr (t.0 ++ x ∷ [], ap (λ (l : List A). l ++ x ∷ []) t.1, IsSubsequence-push t.0 ys x t.2)) s
