-- Where two lists part.
use Rattle.std.proofs.Common.{◌≡◌, ◌<◌, ◌≤◌, ◌+◌, ◌∙◌, ℕ, List, [], ◌∷◌, length, drop, get_or, None, ap, sym, refl, arith, add-one, drop-cons}
use Rattle.std.proofs.lemmas.Grind.{common_steps}
use Rattle.std.proofs.lemmas.List.{drop_all}
use Rattle.sgt_clients.specs.ReportText.{of_one, parting}

pub same_part : (v w : ℕ) (vs ws : List ℕ) → v ≡ w → parting (v ∷ vs) (w ∷ ws) ≡ parting vs ws
same_part v w vs ws same = grind (arith, common_steps, same)

pub end_part : (vs : List ℕ) → parting vs [] ≡ of_one None
end_part [] = refl
end_part (v ∷ vs) = refl

pub front : (xs : List ℕ) (i : ℕ) → i < length xs → drop i xs ≡ get_or xs i 0 ∷ drop (i + 1) xs
front xs i within = rw add-one (drop-cons xs i 0 within)

-- both lists from an index on
pub both_from : (vs ws : List ℕ) (i : ℕ) → i < length vs → i < length ws
    → parting (drop i vs) (drop i ws) ≡ parting (get_or vs i 0 ∷ drop (i + 1) vs) (get_or ws i 0 ∷ drop (i + 1) ws)
both_from vs ws i one other =
    ap (λ l. parting l (drop i ws)) (front vs i one)
    ∙ ap (λ l. parting (get_or vs i 0 ∷ drop (i + 1) vs) l) (front ws i other)

pub part_later : (vs ws : List ℕ) (i : ℕ) → i < length vs → i < length ws → get_or vs i 0 ≡ get_or ws i 0
    → parting vs ws ≡ parting (drop i vs) (drop i ws) → parting vs ws ≡ parting (drop (i + 1) vs) (drop (i + 1) ws)
part_later vs ws i one other same before = before ∙ both_from vs ws i one other ∙ same_part _ _ (drop (i + 1) vs) (drop (i + 1) ws) same

pub part_past : (vs ws : List ℕ) (i : ℕ) → length ws ≤ i → parting vs ws ≡ parting (drop i vs) (drop i ws) → of_one None ≡ parting vs ws
part_past vs ws i past before = sym (before ∙ ap (parting (drop i vs)) (drop_all i ws past) ∙ end_part (drop i vs))
