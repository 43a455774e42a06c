-- Texts that grow by one item at a time.
use Rattle.std.proofs.Common.{◌≡◌, ℕ, ◌+◌, ◌<◌, List, [], ◌∷◌, ◌++◌, length, take, get_or, ap, sym, subst, ◌∙◌, append_assoc}
use Rattle.std.proofs.lemmas.List.{append-nil, take_more}
use Rattle.std.proofs.lemmas.Grind.{flat_map-append}
use Rattle.std.specs.List.{flat_map}

-- the text of one more item
pub one_more : {X : Type 0} (spelled : X → List ℕ) (start before after text : List ℕ) (items shown : List X) (i : ℕ) (d : X)
    → shown ≡ items → i < length shown → before ≡ start ++ flat_map spelled (take i items) → after ≡ before ++ text
    → text ≡ spelled (get_or shown i d) → after ≡ start ++ flat_map spelled (take (i + 1) items)
one_more spelled start before after text items shown i d same within so_far more is =
    more
    ∙ ap (λ l. l ++ text) so_far
    ∙ append_assoc start (flat_map spelled (take i items)) text
    ∙ ap (λ l. start ++ l) (sym (subst (λ l. flat_map spelled (take (i + 1) l) ≡ flat_map spelled (take i l) ++ text) same grown))
  where
    grown : flat_map spelled (take (i + 1) shown) ≡ flat_map spelled (take i shown) ++ text
    grown =
        ap (flat_map spelled) (take_more shown i d within)
        ∙ flat_map-append spelled (take i shown) (get_or shown i d ∷ [])
        ∙ ap (λ l. flat_map spelled (take i shown) ++ l) (append-nil (spelled (get_or shown i d)) ∙ sym is)

-- the same in two pieces
pub two_more : (before between after first second : List ℕ) → between ≡ before ++ first → after ≡ between ++ second
    → after ≡ before ++ (first ++ second)
two_more before between after first second to_between to_after = to_after ∙ ap (λ l. l ++ second) to_between
    ∙ append_assoc before first second
