-- How many accesses pass a test: after a change of the list, and what it says of whether some do.
use Rattle.std.proofs.Common.{◌≡◌, ℕ, ◌+◌, ◌<◌, ◌≤◌, suc, zero, Bool, true, false, ◌||◌, ◌&&◌, not, cond, nat_eq, nat_lt, count_by, List, [], ◌∷◌, ◌++◌, length, get_or, filter, swap_remove, arith, refl, sym, ap, ◌∙◌}
use Rattle.std.specs.List.{list_any, AllWithin}
use Rattle.std.proofs.lemmas.Bool.{true≢false, lt-ltb, or_from}
use Rattle.std.proofs.lemmas.List.Sums.{sum_by-cons, sum_by-append, sum_by-swap_remove}
use Rattle.std.proofs.lemmas.List.{get_or_default}
use Rattle.sgt_model.specs.AccessList.{ListedAccess, is_listed, forgotten}
use Rattle.sgt_access.specs.Masks.{StandsFor, IsOneLess}

-- how many one item is that passes or fails
abbrev pub bit : Bool → ℕ
bit b = cond b 1 0

pub zero_and : (n : ℕ) → n ≡ 0 + n
zero_and n = omega arith

module _ {X : Type 0} (p : X → Bool) where
  -- the items from the front
  pub count_cons : (x : X) (xs : List X) → count_by p (x ∷ xs) ≡ bit (p x) + count_by p xs
  count_cons x xs = sum_by-cons (λ y. bit (p y)) x xs

  -- one more
  pub count_noted : (xs : List X) (x : X) → count_by p (xs ++ x ∷ []) ≡ count_by p xs + bit (p x)
  count_noted xs x = sum_by-append (λ y. bit (p y)) xs (x ∷ []) ∙ ap (λ n. count_by p xs + n) (count_cons x []) ∙ omega arith

  -- some pass if their number is not zero
  some_first : (b any : Bool) (n : ℕ) → any ≡ nat_lt 0 n → (b || any) ≡ nat_lt 0 (bit b + n)
  some_first true any n h = at n
    where
      at : (m : ℕ) → true ≡ nat_lt 0 (1 + m)
      at m = sym (lt-ltb 0 (1 + m) (omega arith))
  some_first false any n h = h ∙ ap (nat_lt 0) (zero_and n)

  pub any_counted : (xs : List X) → list_any p xs ≡ nat_lt 0 (count_by p xs)
  any_counted [] = refl
  any_counted (x ∷ xs) = some_first (p x) (list_any p xs) (count_by p xs) (any_counted xs) ∙ ap (nat_lt 0) (sym (count_cons x xs))

module _ {X : Type 0} (p q : X → Bool) where
  -- those that pass two tests are at most those that pass the first
  both_at_most : (b c : Bool) → bit (b && c) ≤ bit b
  both_at_most true true = omega arith
  both_at_most true false = omega arith
  both_at_most false c = omega arith

  pub count_both : (xs : List X) → count_by (λ x. p x && q x) xs ≤ count_by p xs
  count_both [] = omega arith
  count_both (x ∷ xs) =
      let first : count_by p (x ∷ xs) ≡ bit (p x) + count_by p xs = count_cons p x xs in
      let both : count_by (λ x. p x && q x) (x ∷ xs) ≡ bit (p x && q x) + count_by (λ x. p x && q x) xs =
      count_cons (λ x. p x && q x) x xs in
      let rest : count_by (λ x. p x && q x) xs ≤ count_by p xs = count_both xs in
      let here : bit (p x && q x) ≤ bit (p x) = both_at_most (p x) (q x) in
      omega (arith, first, both, rest, here)

  -- none passes a test that implies one which none passes
  none_first : (b c any : Bool) (m n : ℕ) → (b ≡ true → c ≡ true) → m ≡ bit c + n → m ≡ 0 → (n ≡ 0 → any ≡ false) → (b || any) ≡ false
  none_first true true any m n h sum zeros rest = absurd (omega (arith, sum, zeros))
  none_first true false any m n h sum zeros rest = absurd (true≢false (sym (h refl)))
  none_first false c any m n h sum zeros rest = rest (omega (arith, sum, zeros))

  pub none_counted : (xs : List X) → ((x : X) → p x ≡ true → q x ≡ true) → count_by q xs ≡ 0 → list_any p xs ≡ false
  none_counted [] implies zeros = refl
  none_counted (x ∷ xs) implies zeros = none_first (p x) (q x) (list_any p xs) (count_by q (x ∷ xs)) (count_by q xs) (implies x)
      (count_cons q x xs) zeros (none_counted xs implies)

  -- if all fail a test, all pass its opposite
  and_true : (b : Bool) → bit (b && true) ≡ bit b
  and_true true = refl
  and_true false = refl

  pub count_kept : (xs : List X) → AllWithin (λ x. q x ≡ false) xs 0 (length xs) → count_by (λ x. p x && not (q x)) xs ≡ count_by p xs
  count_kept [] none = refl
  count_kept (x ∷ xs) none =
      count_cons (λ x. p x && not (q x)) x xs
      ∙ ap (λ b. bit (p x && not b) + count_by (λ x. p x && not (q x)) xs) (none 0 x (omega arith) (omega arith))
      ∙ ap (λ n. bit (p x && true) + n) (count_kept xs (λ k d low high. none (suc k) d (omega arith) (omega arith)))
      ∙ ap (λ n. n + count_by p xs) (and_true (p x))
      ∙ sym (count_cons p x xs)

  -- what a filter leaves
  left_first : (b c : Bool) (x : X) (rest : List X) (n : ℕ) → p x ≡ b → count_by p rest ≡ n
      → count_by p (cond (not c) (x ∷ rest) rest) ≡ bit (b && not c) + n
  left_first true true x rest n e h = h ∙ zero_and n
  left_first false true x rest n e h = h ∙ zero_and n
  left_first true false x rest n e h = count_cons p x rest ∙ ap (λ b. bit b + count_by p rest) e ∙ ap (λ m. 1 + m) h
  left_first false false x rest n e h = count_cons p x rest ∙ ap (λ b. bit b + count_by p rest) e ∙ ap (λ m. 0 + m) h

  pub count_filtered : (xs : List X) → count_by p (filter (λ x. not (q x)) xs) ≡ count_by (λ x. p x && not (q x)) xs
  count_filtered [] = refl
  count_filtered (x ∷ xs) = left_first (p x) (q x) x (filter (λ x. not (q x)) xs) (count_by (λ x. p x && not (q x)) xs) refl
      (count_filtered xs) ∙ sym (count_cons (λ x. p x && not (q x)) x xs)

-- accesses that stand for a list pass the same tests
pub any_same : (list accesses : List ListedAccess) → StandsFor list accesses → (p : ListedAccess → Bool) → list_any p accesses ≡ list_any p list
any_same list accesses stands p = any_counted p accesses ∙ ap (nat_lt 0) (stands p) ∙ sym (any_counted p list)

-- two lists
pub count_beside : {X : Type 0} (p : X → Bool) (xs ys : List X) → count_by p (xs ++ ys) ≡ count_by p xs + count_by p ys
count_beside p xs ys = sum_by-append (λ y. bit (p y)) xs ys

-- one less, beside other accesses
pub one_less_beside : (a : ListedAccess) (old new rest : List ListedAccess) → IsOneLess a old new → IsOneLess a (old ++ rest) (new ++ rest)
one_less_beside a old new rest less p =
    let now : count_by p (new ++ rest) ≡ count_by p new + count_by p rest = count_beside p new rest in
    let was : count_by p (old ++ rest) ≡ count_by p old + count_by p rest = count_beside p old rest in
    let one : count_by p new + bit (p a) ≡ count_by p old = less p in
    omega (arith, now, was, one)

-- one more
pub stands_noted : (list accesses : List ListedAccess) (a : ListedAccess) → StandsFor list accesses → StandsFor (list ++ a ∷ []) (accesses ++ a ∷ [])
stands_noted list accesses a stands p = count_noted p accesses a ∙ ap (λ n. n + bit (p a)) (stands p) ∙ sym (count_noted p list a)

-- the last access in place of one
pub one_taken : (accesses : List ListedAccess) (index : ℕ) (a : ListedAccess) → index < length accesses → a ≡ get_or accesses index a
    → IsOneLess a accesses (swap_remove accesses index a)
one_taken accesses index a short is p = ap (λ x. count_by p (swap_remove accesses index a) + bit (p x)) is
    ∙ sum_by-swap_remove (λ y. bit (p y)) accesses index a short

-- without the accesses of a transaction
pub stands_forgotten : (list old new : List ListedAccess) (t : ℕ) → StandsFor list old
    → ((p : ListedAccess → Bool) → count_by (λ a. p a && not (nat_eq a.by t)) new ≡ count_by (λ a. p a && not (nat_eq a.by t)) old)
    → AllWithin (λ (a : ListedAccess). nat_eq a.by t ≡ false) new 0 (length new) → StandsFor (forgotten t list) new
stands_forgotten list old new t stands same none p =
    sym (count_kept p (λ a. nat_eq a.by t) new none) ∙ same p ∙ stands (λ a. p a && not (nat_eq a.by t))
    ∙ sym (count_filtered p (λ a. nat_eq a.by t) list)

-- none is listed
pub none_listed : (t : ℕ) (accesses : List ListedAccess) → AllWithin (λ (a : ListedAccess). nat_eq a.by t ≡ false) accesses 0 (length accesses)
    → is_listed accesses t ≡ false
none_listed t [] none = refl
none_listed t (a ∷ accesses) none = or_from (nat_eq a.by t) (is_listed accesses t) (none 0 a (omega arith) (omega arith))
    (none_listed t accesses (λ k d low high. none (suc k) d (omega arith) (omega arith)))

-- one access of the transaction less does not change how many others there are
pub others_taken : (old new : List ListedAccess) (a : ListedAccess) (t : ℕ) → a.by ≡ t → nat_eq a.by t ≡ true → IsOneLess a old new
    → (p : ListedAccess → Bool) → count_by (λ a. p a && not (nat_eq a.by t)) new ≡ count_by (λ a. p a && not (nat_eq a.by t)) old
others_taken old new a t by test less p =
    sym (ap (λ n. count_by (λ a. p a && not (nat_eq a.by t)) new + n) (ap (λ b. bit (p a && not b)) test ∙ none (p a)) ∙ omega arith)
    ∙ less (λ a. p a && not (nat_eq a.by t))
  where
    none : (b : Bool) → bit (b && false) ≡ 0
    none true = refl
    none false = refl

-- two reads of the same index
pub same_read : (xs : List ListedAccess) (i : ℕ) (x y : ListedAccess) → i < length xs → x ≡ get_or xs i x → y ≡ get_or xs i y → x ≡ y
same_read xs i x y short first second = first ∙ get_or_default xs i x y short ∙ sym second

-- neither of two
pub or_parts : (a b : Bool) → (a || b) ≡ false → (a ≡ false) × (b ≡ false)
or_parts true b h = absurd (true≢false h)
or_parts false b h = (refl, h)

-- none is of the transaction
pub none_within : (t : ℕ) (xs : List ListedAccess) → list_any (λ (a : ListedAccess). nat_eq a.by t) xs ≡ false
    → AllWithin (λ (a : ListedAccess). nat_eq a.by t ≡ false) xs 0 (length xs)
none_within t [] none k d low high = absurd (omega (arith, high))
none_within t (x ∷ xs) none zero d low high = (or_parts (nat_eq x.by t) (list_any (λ (a : ListedAccess). nat_eq a.by t) xs) none).0
none_within t (x ∷ xs) none (suc k) d low high =
    none_within t xs (or_parts (nat_eq x.by t) (list_any (λ (a : ListedAccess). nat_eq a.by t) xs) none).1 k d (omega arith) (omega (arith, high))

-- other accesses beside both lists
pub stands_beside : (xs ys rest : List ListedAccess) → StandsFor xs ys → StandsFor (xs ++ rest) (ys ++ rest)
stands_beside xs ys rest stands p =
    let one : count_by p (ys ++ rest) ≡ count_by p ys + count_by p rest = count_beside p ys rest in
    let other : count_by p (xs ++ rest) ≡ count_by p xs + count_by p rest = count_beside p xs rest in
    let same : count_by p ys ≡ count_by p xs = stands p in
    omega (arith, one, other, same)

pub stands_back : (xs ys : List ListedAccess) → StandsFor xs ys → StandsFor ys xs
stands_back xs ys stands p = sym (stands p)
