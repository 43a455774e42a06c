-- What is held of accesses in two lists, after each change.
use Rattle.std.proofs.Common.{◌≡◌, ◌≢◌, ℕ, suc, zero, ◌+◌, ◌<◌, ◌≤◌, Bool, true, false, ◌||◌, ◌&&◌, not, nat_eq, count_by, List, [], ◌∷◌, ◌++◌, length, Option, Some, None, IsSome, arith, refl, sym, ap, subst, ◌∙◌}
use Rattle.std.specs.List.{list_any, AllWithin}
use Rattle.std.proofs.lemmas.Bool.{or_from, cases_eq}
use Rattle.std.proofs.lemmas.List.{append-nil}
use Rattle.std.proofs.lemmas.List.Folds.{list_any-append}
use Rattle.sgt_model.specs.AccessList.{ListedAccess, is_listed, forgotten}
use Rattle.sgt_access.specs.declared.masks.Masks.{Masks}
use Rattle.sgt_access.specs.Masks.{StandsFor, Covers, Knows, Holds, IsLeaving, is_of_other}
use Rattle.sgt_access.proofs.Counts.{bit, any_same, none_within, stands_back, count_cons, count_beside, count_noted, stands_forgotten}
use Rattle.sgt_access.proofs.Reordered.{leaving_same}
use Rattle.sgt_access.proofs.Owned.{knows_left, knows_none, none_long, owned_forgotten, owned_noted, owned_stays}

-- two lists in the other order
pub stands_swapped : (list xs ys : List ListedAccess) → StandsFor list (xs ++ ys) → StandsFor list (ys ++ xs)
stands_swapped list xs ys stands p =
    let one : count_by p (ys ++ xs) ≡ count_by p ys + count_by p xs = count_beside p ys xs in
    let other : count_by p (xs ++ ys) ≡ count_by p xs + count_by p ys = count_beside p xs ys in
    let same : count_by p (xs ++ ys) ≡ count_by p list = stands p in
    omega (arith, one, other, same)

-- if either has none, so has the other
pub stands_none : (xs : List ListedAccess) → StandsFor xs [] → xs ≡ []
stands_none [] stands = refl
stands_none (x ∷ xs) stands =
    let more : count_by (λ (a : ListedAccess). true) (x ∷ xs) ≡ 1 + count_by (λ (a : ListedAccess). true) xs =
    count_cons (λ (a : ListedAccess). true) x xs in
    let none : count_by (λ (a : ListedAccess). true) [] ≡ count_by (λ (a : ListedAccess). true) (x ∷ xs) = stands (λ a. true) in
    let zeros : count_by (λ (a : ListedAccess). true) [] ≡ 0 = refl in
    absurd (omega (arith, more, none, zeros))

second_none : (xs ys : List ListedAccess) → xs ++ ys ≡ [] → ys ≡ []
second_none [] ys h = h
second_none (x ∷ xs) ys h = absurd (cc)

-- neither list has one of the transaction
pub none_of_both : (xs ys : List ListedAccess) (t : ℕ) → is_listed xs t ≡ false → is_listed ys t ≡ false → is_listed (xs ++ ys) t ≡ false
none_of_both xs ys t none also =
    list_any-append (λ (a : ListedAccess). nat_eq a.by t) xs ys ∙ or_from (is_listed xs t) (is_listed ys t) none also

-- the accesses of a transaction are gone from both lists, and all others are there
pub both_forgotten : (list xs ys xs' ys' : List ListedAccess) (t : ℕ) → StandsFor list (xs ++ ys)
    → ((p : ListedAccess → Bool) → count_by (λ a. p a && not (nat_eq a.by t)) xs' ≡ count_by (λ a. p a && not (nat_eq a.by t)) xs)
    → ((p : ListedAccess → Bool) → count_by (λ a. p a && not (nat_eq a.by t)) ys' ≡ count_by (λ a. p a && not (nat_eq a.by t)) ys)
    → is_listed xs' t ≡ false → is_listed ys' t ≡ false → StandsFor (forgotten t list) (xs' ++ ys')
both_forgotten list xs ys xs' ys' t stands first second none also =
    stands_forgotten list (xs ++ ys) (xs' ++ ys') t stands
    (λ p. let q : ListedAccess → Bool = (λ a. p a && not (nat_eq a.by t)) in
    let now : count_by q (xs' ++ ys') ≡ count_by q xs' + count_by q ys' = count_beside q xs' ys' in
    let was : count_by q (xs ++ ys) ≡ count_by q xs + count_by q ys = count_beside q xs ys in
    let one : count_by q xs' ≡ count_by q xs = first p in
    let two : count_by q ys' ≡ count_by q ys = second p in
    omega (arith, now, was, one, two))
    (none_within t (xs' ++ ys') (none_of_both xs' ys' t none also))

-- the accesses of a transaction are removed from the second list, and then from the first one
pub left_of : (m m' m'' : Masks) (t places : ℕ) (list xs ys xs' ys' : List ListedAccess) → StandsFor list (xs ++ ys)
    → StandsFor (forgotten t list) (xs' ++ ys') → IsLeaving m t places list
    → ((rest : List ListedAccess) → IsLeaving m t places (ys ++ rest) → IsLeaving m' t places (ys' ++ rest))
    → ((rest : List ListedAccess) → IsLeaving m' t places (xs ++ rest) → IsLeaving m'' t places (xs' ++ rest))
    → IsLeaving m'' t places (forgotten t list)
left_of m m' m'' t places list xs ys xs' ys' stands left leaving second first =
    leaving_same m'' t places (xs' ++ ys') (forgotten t list) (stands_back (forgotten t list) (xs' ++ ys') left)
    (first ys' (leaving_same m' t places (ys' ++ xs) (xs ++ ys') (stands_swapped (ys' ++ xs) ys' xs (λ p. refl))
    (second xs (leaving_same m t places list (ys ++ xs) (stands_swapped list xs ys stands) leaving))))

-- none of the transaction is listed in what is left
pub forgotten_none : (list accesses : List ListedAccess) (t : ℕ) → StandsFor (forgotten t list) accesses → is_listed accesses t ≡ false
    → is_listed (forgotten t list) t ≡ false
forgotten_none list accesses t stands none =
    sym (any_same (forgotten t list) accesses stands (λ (a : ListedAccess). nat_eq a.by t)) ∙ none

-- an access more
pub held_noted : (list : List ListedAccess) (only only' : Option ℕ) (m m' : Masks) (xs ys xs' ys' : List ListedAccess) (a : ListedAccess)
    → Holds list only m xs ys → StandsFor ((xs ++ ys) ++ a ∷ []) (xs' ++ ys') → (IsSome only' → ys' ≡ ys) → (IsSome only' → IsSome only)
    → Knows only' m' (list ++ a ∷ []) → Holds (list ++ a ∷ []) only' m' xs' ys'
held_noted list only only' m m' xs ys xs' ys' a held stands same alone knows = record {
  stands = λ p.
      let now : count_by p (xs' ++ ys') ≡ count_by p ((xs ++ ys) ++ a ∷ []) = stands p in
      let noted : count_by p ((xs ++ ys) ++ a ∷ []) ≡ count_by p (xs ++ ys) + bit (p a) = count_noted p (xs ++ ys) a in
      let also : count_by p (list ++ a ∷ []) ≡ count_by p list + bit (p a) = count_noted p list a in
      let was : count_by p (xs ++ ys) ≡ count_by p list = held.stands p in
      omega (arith, now, noted, also, was);
  knows = knows;
  alone = λ some. same some ∙ held.alone (alone some);
}

-- an access is stored in either list
pub stored_first : (xs ys : List ListedAccess) (a : ListedAccess) → StandsFor ((xs ++ ys) ++ a ∷ []) ((xs ++ a ∷ []) ++ ys)
stored_first xs ys a p =
    let now : count_by p ((xs ++ a ∷ []) ++ ys) ≡ count_by p (xs ++ a ∷ []) + count_by p ys = count_beside p (xs ++ a ∷ []) ys in
    let noted : count_by p (xs ++ a ∷ []) ≡ count_by p xs + bit (p a) = count_noted p xs a in
    let was : count_by p (xs ++ ys) ≡ count_by p xs + count_by p ys = count_beside p xs ys in
    let also : count_by p ((xs ++ ys) ++ a ∷ []) ≡ count_by p (xs ++ ys) + bit (p a) = count_noted p (xs ++ ys) a in
    omega (arith, now, noted, was, also)

pub stored_second : (xs ys ys' : List ListedAccess) (a : ListedAccess) → StandsFor (ys ++ a ∷ []) ys' → StandsFor ((xs ++ ys) ++ a ∷ []) (xs ++ ys')
stored_second xs ys ys' a stands p =
    let now : count_by p (xs ++ ys') ≡ count_by p xs + count_by p ys' = count_beside p xs ys' in
    let step : count_by p ys' ≡ count_by p (ys ++ a ∷ []) = stands p in
    let noted : count_by p (ys ++ a ∷ []) ≡ count_by p ys + bit (p a) = count_noted p ys a in
    let was : count_by p (xs ++ ys) ≡ count_by p xs + count_by p ys = count_beside p xs ys in
    let also : count_by p ((xs ++ ys) ++ a ∷ []) ≡ count_by p (xs ++ ys) + bit (p a) = count_noted p (xs ++ ys) a in
    omega (arith, now, step, noted, was, also)

-- while all are of one transaction, the first list has them
pub first_stands : (list : List ListedAccess) (only : Option ℕ) (m : Masks) (xs ys : List ListedAccess) → Holds list only m xs ys → IsSome only
    → StandsFor list xs
first_stands list only m xs ys held some =
    subst (StandsFor list) (ap (λ l. xs ++ l) (held.alone some) ∙ append-nil xs) held.stands

-- the first access of all, or of another transaction than the only one
pub first_noted : (m : Masks) (list others : List ListedAccess) (a : ListedAccess) → length others ≡ 0 → StandsFor list others → Covers m []
    → Knows (Some a.by) m (list ++ a ∷ [])
first_noted m list others a none stands covers =
    let empty : list ≡ [] = stands_none list (subst (StandsFor list) (none_long others none) stands) in
    subst (λ l. Knows (Some a.by) m (l ++ a ∷ [])) (sym empty) (owned_noted a.by [] refl a refl, covers)

-- nothing is held, and masks are made
pub held_none : (list : List ListedAccess) (only : Option ℕ) (m m' : Masks) (xs ys xs' ys' : List ListedAccess) → xs ≡ [] → ys ≡ []
    → xs' ≡ [] → ys' ≡ [] → Covers m' [] → Holds list only m xs ys → Holds list only m' xs' ys'
held_none list only m m' xs ys xs' ys' none also none' also' covers held =
    let empty : list ≡ [] = stands_none list (subst (λ l. StandsFor list (l ++ [])) none (subst (λ l. StandsFor list (xs ++ l)) also held.stands)) in
    record {
      stands = rw (empty, none', also') (λ p. refl);
      knows = subst (Knows only m') (sym empty) (knows_none only m' covers);
      alone = λ some. also';
    }

-- the only transaction ends
pub held_cleared : (t : ℕ) (list : List ListedAccess) (m : Masks) (xs ys : List ListedAccess) → Holds list (Some t) m xs ys
    → Holds (forgotten t list) (Some t) m [] ys
held_cleared t list m xs ys held =
    let gone : StandsFor (forgotten t list) [] = owned_forgotten t list held.knows.0 list (λ p. refl) in
    record {
      stands = rw (held.alone refl) gone;
      knows = (sym (any_same (forgotten t list) [] gone (is_of_other t)), held.knows.1);
      alone = held.alone;
    }

-- a transaction ends that has no access
pub held_kept : (only t : ℕ) (list : List ListedAccess) (m : Masks) (xs ys : List ListedAccess) → only ≢ t → Holds list (Some only) m xs ys
    → Holds (forgotten t list) (Some only) m xs ys
held_kept only t list m xs ys apart held =
    let owned : list_any (is_of_other only) (xs ++ ys) ≡ false = any_same list (xs ++ ys) held.stands (is_of_other only) ∙ held.knows.0 in
    let left : StandsFor (forgotten t list) (xs ++ ys) = owned_stays only t list (xs ++ ys) apart owned held.stands in
    record {
      stands = left;
      knows = (sym (any_same (forgotten t list) (xs ++ ys) left (is_of_other only)) ∙ owned, held.knows.1);
      alone = held.alone;
    }

-- the last one has ended
pub held_idle : (t : ℕ) (list : List ListedAccess) (m : Masks) (xs ys : List ListedAccess) → StandsFor list (xs ++ ys) → list ≡ []
    → Covers m list → Holds list (Some t) m xs ys
held_idle t list m xs ys stands empty covers = record {
  stands = stands;
  knows = knows_left m t list empty covers;
  alone = λ some. second_none xs ys (stands_none (xs ++ ys) (stands_back [] (xs ++ ys) (subst (λ l. StandsFor l (xs ++ ys)) empty stands)));
}
