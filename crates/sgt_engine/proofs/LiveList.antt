-- Whether a transaction is live is whether it is in the list of the live ones.
use Rattle.std.proofs.Common.{◌≡◌, ◌↔◌, ℕ, Bool, true, false, ◌||◌, nat_eq, List, [], ◌∷◌, inl, inr, refl, sym, ◌∙◌}
use Rattle.std.proofs.lemmas.Bool.{eqb-false, eqb-true}
use Rattle.std.specs.List.{list_any}
use Rattle.sgt_model.specs.Paths.{Member}

same : (t : ℕ) → nat_eq t t ≡ true
same t = go (nat_eq t t) refl
  where
    go : (b : Bool) → nat_eq t t ≡ b → nat_eq t t ≡ true
    go true e = e
    go false e = absurd (eqb-false t t e refl)

any_of : (t : ℕ) (l : List ℕ) → Member t l → list_any (λ u. nat_eq u t) l ≡ true
any_of t [] m = absurd m
any_of t (u ∷ l) (inl e) = rw (sym e, same t) refl
any_of t (u ∷ l) (inr m) = go (nat_eq u t) (any_of t l m)
  where
    go : (b : Bool) → list_any (λ u. nat_eq u t) l ≡ true → (b || list_any (λ u. nat_eq u t) l) ≡ true
    go true h = refl
    go false h = h

of_any : (t : ℕ) (l : List ℕ) → list_any (λ u. nat_eq u t) l ≡ true → Member t l
of_any t [] h = absurd (cc h)
of_any t (u ∷ l) h = go (of_any t l) (nat_eq u t) refl h
  where
    go : (list_any (λ u. nat_eq u t) l ≡ true → Member t l) → (b : Bool) → nat_eq u t ≡ b → (b || list_any (λ u. nat_eq u t) l) ≡ true
        → Member t (u ∷ l)
    go rest true e h = inl (sym (eqb-true u t e))
    go rest false e h = inr (rest h)

pub any_is : (t : ℕ) (l : List ℕ) (is : Bool) → (is ≡ true) ↔ Member t l → list_any (λ u. nat_eq u t) l ≡ is
any_is t l is both = go (list_any (λ u. nat_eq u t) l) is refl refl
  where
    go : (a b : Bool) → list_any (λ u. nat_eq u t) l ≡ a → is ≡ b → a ≡ b
    go true true e f = refl
    go false false e f = refl
    go true false e f = cc (sym (both.1 (of_any t l e)) ∙ f)
    go false true e f = cc (sym e ∙ any_of t l (both.0 f))
