-- Steps item by item: the state with one item more.
use Rattle.std.proofs.Common.{◌≡◌, ℕ, ◌+◌, ◌<◌, ◌≤◌, Bool, true, false, List, [], ◌∷◌, ◌++◌, length, get_or, take, cond, refl, sym, ap, ◌∙◌, arith}
use Rattle.std.specs.List.{count_by, flat_map}
use Rattle.std.proofs.lemmas.Grind.{flat_map-append}
use Rattle.std.proofs.lemmas.List.{take_more, append-nil, length-take}
use Rattle.std.proofs.lemmas.List.Sums.{count_by_more_no, count_by_more_yes, count_by-le-length, sum_by-append, sum_by-cons}

pub flat_map_next : {X A : Type 0} (f : X → List A) (xs : List X) (i : ℕ) (x : X) → i < length xs → x ≡ get_or xs i x
    → flat_map f (take (i + 1) xs) ≡ flat_map f (take i xs) ++ f x
flat_map_next f xs i x within is = ap (flat_map f) (take_more xs i x within)
    ∙ (flat_map-append f (take i xs) (get_or xs i x ∷ []) ∙ (ap (λ l. flat_map f (take i xs) ++ l) (append-nil (f (get_or xs i x)))
    ∙ ap (λ y. flat_map f (take i xs) ++ f y) (sym is)))

counted : {X : Type 0} (p : X → Bool) (xs : List X) (i : ℕ) (x : X) (b : Bool) → i < length xs → x ≡ get_or xs i x → p x ≡ b
    → count_by p (take (i + 1) xs) ≡ count_by p (take i xs) + count_by p (x ∷ [])
counted p xs i x true within is it =
    let more = count_by_more_yes p xs i x within (ap p (sym is) ∙ it) in
    rw it more
counted p xs i x false within is it =
    let more = count_by_more_no p xs i x within (ap p (sym is) ∙ it) in
    rw it (omega arith)

-- the count before x, plus 1 if x is counted, is the count with x
pub added : {X : Type 0} (p : X → Bool) (xs : List X) (i : ℕ) (x : X) {n one : ℕ} → i < length xs → x ≡ get_or xs i x
    → n ≡ count_by p (take i xs) → one ≡ count_by p (x ∷ []) → n + one ≡ count_by p (take (i + 1) xs)
added p xs i x within is so it = let next = counted p xs i x (p x) within is refl in omega arith

-- never more than there are items
pub few : {X : Type 0} (p : X → Bool) (xs : List X) (i : ℕ) {n : ℕ} → n ≡ count_by p (take i xs) → n ≤ i
few p xs i so = omega (arith, count_by-le-length p (take i xs), length-take i xs)

-- a count goes on with one item more
pub one_counted : {X : Type 0} (p : X → Bool) (h : List X) (i : ℕ) (x : X) {n : ℕ} → take (i + 1) h ≡ take i h ++ x ∷ []
    → n ≡ count_by p (take i h) → n + cond (p x) 1 0 ≡ count_by p (take (i + 1) h)
one_counted p h i x {n} next so =
    let whole : count_by p (take i h ++ x ∷ []) ≡ count_by p (take i h) + count_by p (x ∷ []) =
    sum_by-append (λ y. cond (p y) 1 0) (take i h) (x ∷ []) in
    let one : count_by p (x ∷ []) ≡ cond (p x) 1 0 + 0 = sum_by-cons (λ y. cond (p y) 1 0) x [] in
    let longer = ap (count_by p) next in
    omega (arith, whole, one, longer, so)
