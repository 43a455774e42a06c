-- A history entry by entry: the first entries, newest first.
use Rattle.std.proofs.Common.{◌≡◌, ℕ, ◌+◌, ◌≤◌, List, [], ◌∷◌, ◌++◌, length, take, drop, reverse, sym, ap, subst, ◌∙◌}
use Rattle.std.proofs.lemmas.List.{reverse-append, take-append-drop, length-reverse, length-take-le}
use Rattle.sgt_model.specs.declared.entry.Entry.{Entry}
use Rattle.sgt_model.specs.Configurations.{Configuration}
use Rattle.sgt_model.specs.Legality.{Legal}
use Rattle.sgt_model.proofs.Facts.{legal_older}

-- one entry more
pub one_more : (h : List Entry) (i : ℕ) (e : Entry) → take (i + 1) h ≡ take i h ++ e ∷ []
    → reverse (take (i + 1) h) ≡ e ∷ reverse (take i h)
one_more h i e next = ap reverse next ∙ reverse-append (take i h) (e ∷ [])

-- the first entries of a legal history are legal
pub legal_first : (s : Configuration) (h : List Entry) (n : ℕ) → Legal s (reverse h) → Legal s (reverse (take n h))
legal_first s h n legal = legal_older s (reverse (drop n h)) (reverse (take n h))
    (subst (λ l. Legal s l) (ap reverse (sym (take-append-drop n h)) ∙ reverse-append (take n h) (drop n h)) legal)

-- each entry is legal after those before it
pub legal_next : (s : Configuration) (h : List Entry) (i : ℕ) (e : Entry) → take (i + 1) h ≡ take i h ++ e ∷ [] → Legal s (reverse h)
    → Legal s (e ∷ reverse (take i h))
legal_next s h i e next legal = subst (λ l. Legal s l) (one_more h i e next) (legal_first s h (i + 1) legal)

pub first_length : (h : List Entry) (i : ℕ) → i ≤ length h → length (reverse (take i h)) ≡ i
first_length h i within = length-reverse (take i h) ∙ length-take-le i h within
