-- One more member of a list that rises, and the others that do not stand, one by one.
use Rattle.std.proofs.Common.{◌≡◌, ◌↔◌, ℕ, ◌+◌, ◌<◌, ◌≤◌, Bool, true, false, cond, nat_eq, nat_lt, ◌⊎◌, List, [], ◌∷◌, ◌++◌, length, take, get_or, refl, sym, ap, ◌∙◌, subst, inl, inr, arith}
use Rattle.std.proofs.lemmas.Bool.{true≢false, eqb-true}
use Rattle.std.proofs.lemmas.Bool.Decides.{nat_tests}
use Rattle.std.proofs.lemmas.List.{take_more}
use Rattle.sgt_model.specs.Paths.{Member, Rising}
use Rattle.sgt_model.proofs.Listed.{member_added}
use Rattle.sgt_model.proofs.Capacity.{member_append}
use Rattle.sgt_cascade.specs.Standing.{stands, with_member}

-- the members are those of the list, and t

with_members : (t : ℕ) (l : List ℕ) (u : ℕ) → Member u (with_member t l) → Member u l ⊎ (u ≡ t)
with_members t [] u (inl e) = inr e
with_members t [] u (inr m) = absurd m
with_members t (x ∷ l) u m = go (nat_lt x t) (nat_eq x t) (with_members t l u) m
  where
    go : (a b : Bool) → (Member u (with_member t l) → Member u l ⊎ (u ≡ t))
        → Member u (cond a (x ∷ with_member t l) (cond b (x ∷ l) (t ∷ x ∷ l))) → Member u (x ∷ l) ⊎ (u ≡ t)
    go true b rest (inl e) = inl (inl e)
    go true b rest (inr m) = elim (rest m) [ inl n ↦ inl (inr n) | inr e ↦ inr e ]
    go false true rest m = inl m
    go false false rest (inl e) = inr e
    go false false rest (inr m) = inl m

members_with : (t : ℕ) (l : List ℕ) (u : ℕ) → Member u l ⊎ (u ≡ t) → Member u (with_member t l)
members_with t [] u (inl m) = absurd m
members_with t [] u (inr e) = inl e
members_with t (x ∷ l) u m = go (nat_lt x t) (nat_eq x t) refl (members_with t l u) m
  where
    go : (a b : Bool) → nat_eq x t ≡ b → (Member u l ⊎ (u ≡ t) → Member u (with_member t l)) → Member u (x ∷ l) ⊎ (u ≡ t)
        → Member u (cond a (x ∷ with_member t l) (cond b (x ∷ l) (t ∷ x ∷ l)))
    go true b q rest (inl (inl e)) = inl e
    go true b q rest (inl (inr n)) = inr (rest (inl n))
    go true b q rest (inr e) = inr (rest (inr e))
    go false true q rest (inl n) = n
    go false true q rest (inr e) = inl (e ∙ sym (eqb-true x t q))
    go false false q rest (inl n) = inr n
    go false false q rest (inr e) = inl e

-- it rises

after_first : (x : ℕ) (l : List ℕ) → Rising (x ∷ l) → (u : ℕ) → Member u l → x < u
after_first x [] rising u m = absurd m
after_first x (y ∷ l) rising u (inl e) = subst (λ v. x < v) (sym e) rising.0
after_first x (y ∷ l) rising u (inr m) = let far = after_first y l rising.1 u m in let near = rising.0 in omega arith

rising_rest : (x : ℕ) (l : List ℕ) → Rising (x ∷ l) → Rising l
rising_rest x [] rising = tt
rising_rest x (y ∷ l) rising = rising.1

rising_cons : (x : ℕ) (l : List ℕ) → ((u : ℕ) → Member u l → x < u) → Rising l → Rising (x ∷ l)
rising_cons x [] below rising = tt
rising_cons x (y ∷ l) below rising = (below y (inl refl), rising)

pub with_rising : (t : ℕ) (l : List ℕ) → Rising l → Rising (with_member t l)
with_rising t [] rising = tt
with_rising t (x ∷ l) rising = go (nat_lt x t) (nat_eq x t) refl refl (with_rising t l (rising_rest x l rising))
  where
    go : (a b : Bool) → nat_lt x t ≡ a → nat_eq x t ≡ b → Rising (with_member t l)
        → Rising (cond a (x ∷ with_member t l) (cond b (x ∷ l) (t ∷ x ∷ l)))
    go true b p q rest = rising_cons x (with_member t l) (λ u m. elim (with_members t l u m) [
      | inl n ↦ after_first x l rising u n
      | inr e ↦ subst (λ v. x < v) (sym e) (grind (arith, nat_tests, p))
    ]) rest
    go false true p q rest = rising
    go false false p q rest = (grind (arith, nat_tests, p, q), rising)

-- it has at most one more
pub with_few : (t : ℕ) (l : List ℕ) → length (with_member t l) ≤ length l + 1
with_few t [] = omega arith
with_few t (x ∷ l) = go (nat_lt x t) (nat_eq x t) (with_few t l)
  where
    go : (a b : Bool) → length (with_member t l) ≤ length l + 1
        → length (cond a (x ∷ with_member t l) (cond b (x ∷ l) (t ∷ x ∷ l))) ≤ length (x ∷ l) + 1
    go true b rest = omega (arith, rest)
    go false true rest = omega arith
    go false false rest = omega arith

module _ (standing others fell : List ℕ) (i x : ℕ) (short : i < length others) (is : x ≡ get_or others i x)
    (so_far : (u : ℕ) → Member u fell ↔ (Member u (take i others) × (stands standing u ≡ false))) where
  more : take (i + 1) others ≡ take i others ++ x ∷ []
  more = subst (λ y. take (i + 1) others ≡ take i others ++ y ∷ []) (sym is) (take_more others i x short)

  there : (u : ℕ) → Member u (take i others) ⊎ (u ≡ x) → Member u (take (i + 1) others)
  there u m = subst (λ l. Member u l) (sym more) (member_added u (take i others) x m)

  among : (u : ℕ) → Member u (take (i + 1) others) → Member u (take i others) ⊎ (u ≡ x)
  among u m = member_append u (take i others) x (subst (λ l. Member u l) more m)

  -- one that does not stand is added
  pub adds : stands standing x ≡ false → (u : ℕ) → Member u (with_member x fell)
      ↔ (Member u (take (i + 1) others) × (stands standing u ≡ false))
  adds out u = (
    (λ m. elim (with_members x fell u m) [
      | inl n ↦ let both = (so_far u).0 n in (there u (inl both.0), both.1)
      | inr e ↦ (there u (inr e), ap (stands standing) e ∙ out)
    ]),
    λ h. members_with x fell u (elim (among u h.0) [
      | inl m ↦ inl ((so_far u).1 (m, h.1))
      | inr e ↦ inr e
    ]),
  )

  -- one that stands is not
  pub skips : stands standing x ≡ true → (u : ℕ) → Member u fell ↔ (Member u (take (i + 1) others) × (stands standing u ≡ false))
  skips stays u = (
    (λ m. let both = (so_far u).0 m in (there u (inl both.0), both.1)),
    λ h. elim (among u h.0) [
      | inl m ↦ (so_far u).1 (m, h.1)
      | inr e ↦ absurd (true≢false (sym stays ∙ ap (stands standing) (sym e) ∙ h.1))
    ],
  )
