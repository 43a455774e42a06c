-- Two lists of accesses that are compared one by one.
use Rattle.std.proofs.Common.{◌≡◌, ◌<◌, ◌+◌, ◌++◌, ◌∙◌, ℕ, List, [], ◌∷◌, length, take, get_or, sym, ap}
use Rattle.std.proofs.lemmas.List.{take_more}
use Rattle.sgt_clients.specs.declared.access.Access.{Access}

-- one access more
pub same_more : (xs ys : List Access) (i : ℕ) (x y : Access) → i < length xs → i < length ys → get_or xs i x ≡ get_or ys i y
    → take i xs ≡ take i ys → take (i + 1) xs ≡ take (i + 1) ys
same_more xs ys i x y within also same before =
    take_more xs i x within ∙ ap (λ l. l ++ get_or xs i x ∷ []) before ∙ ap (λ o. take i ys ++ o ∷ []) same
    ∙ sym (take_more ys i y also)
