-- A template that is filled, part by part.
use Rattle.std.proofs.Common.{◌≡◌, ◌≤◌, ◌<◌, ◌+◌, ℕ, List, ◌∷◌, ◌++◌, length, drop, map, get_or, refl, ap, sym, ◌∙◌, append_assoc}
use Rattle.std.proofs.lemmas.List.{at_drop_more, drop_all}
use Rattle.sgt_format.specs.Templates.{before_mark, after_mark, filled}

-- a template before one text and others
filled_more : (template t : List ℕ) (ts : List (List ℕ))
    → filled template (t ∷ ts) ≡ (before_mark template ++ t) ++ filled (after_mark template) ts
unfolding filled
filled_more template t ts = refl

-- the texts of parts before one more
texts_more : {X : Type 0} (spelled : X → List ℕ) (parts : List X) (i : ℕ) (d : X) → i < length parts
    → map spelled (drop i parts) ≡ spelled (get_or parts i d) ∷ map spelled (drop (i + 1) parts)
texts_more spelled parts i d within = at_drop_more (map spelled) parts i d within

-- one part more
pub fill_more : {X : Type 0} (spelled : X → List ℕ) (text words grown new left following whole : List ℕ) (parts : List X) (i : ℕ) (d : X)
    → i < length parts → text ++ filled left (map spelled (drop i parts)) ≡ whole → words ≡ before_mark left → following ≡ after_mark left
    → grown ≡ text ++ words → new ≡ grown ++ spelled (get_or parts i d)
    → new ++ filled following (map spelled (drop (i + 1) parts)) ≡ whole
fill_more spelled text words grown new left following whole parts i d within before front after to_grown to_new =
    let shown = spelled (get_or parts i d) in
    let rest = map spelled (drop (i + 1) parts) in
    ap (λ f. new ++ filled f rest) after
    ∙ ap (λ n. n ++ filled (after_mark left) rest) (to_new ∙ ap (λ g. g ++ shown) (to_grown ∙ ap (λ w. text ++ w) front))
    ∙ ap (λ l. l ++ filled (after_mark left) rest) (append_assoc text (before_mark left) shown)
    ∙ append_assoc text (before_mark left ++ shown) (filled (after_mark left) rest)
    ∙ ap (λ l. text ++ l) (sym (filled_more left shown rest))
    ∙ ap (λ l. text ++ filled left l) (sym (texts_more spelled parts i d within))
    ∙ before

-- no part more
pub fill_end : {X : Type 0} (spelled : X → List ℕ) (text left whole : List ℕ) (parts : List X) (i : ℕ) → length parts ≤ i
    → text ++ filled left (map spelled (drop i parts)) ≡ whole → text ++ left ≡ whole
unfolding filled
fill_end spelled text left whole parts i end before =
    ap (λ l. text ++ filled left (map spelled l)) (sym (drop_all i parts end)) ∙ before
