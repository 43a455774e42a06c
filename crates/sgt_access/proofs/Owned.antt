-- Accesses that are all of one transaction, and what is known of accesses after each change.
use Rattle.std.proofs.Common.{◌≡◌, ◌≢◌, ℕ, suc, zero, Bool, true, false, ◌||◌, ◌&&◌, not, nat_eq, nat_lt, count_by, List, [], ◌∷◌, ◌++◌, length, Option, Some, None, arith, refl, sym, ap, subst, ◌∙◌, inl, inr}
use Rattle.std.specs.List.{list_any, AllWithin}
use Rattle.std.proofs.lemmas.Bool.{true≢false, eqb-true, eq-eqb, and_parts, not_from_false, false_from_ne_true, both_ways, lt-ltb}
use Rattle.sgt_model.specs.declared.kind.Kind.{Kind}
use Rattle.sgt_model.specs.Contents.{Key}
use Rattle.sgt_model.specs.AccessList.{ListedAccess, is_conflicting, forgotten}
use Rattle.sgt_cycle.specs.Indices.{is_set}
use Rattle.sgt_cycle.proofs.Bits.{none_in}
use Rattle.sgt_access.specs.declared.masks.Masks.{Masks}
use Rattle.sgt_access.specs.Masks.{StandsFor, Covers, Knows, AreRivalsAt, is_of_other}
use Rattle.sgt_access.proofs.Counts.{any_counted, or_parts, stands_forgotten}
use Rattle.sgt_access.proofs.Marks.{any_implied, any_cases}

-- an access of the transaction is of no other
of_same : (t : ℕ) (a : ListedAccess) → a.by ≡ t → is_of_other t a ≡ false
of_same t a e = ap not (eq-eqb a.by t e)

of_other : (t : ℕ) (a : ListedAccess) → a.by ≢ t → is_of_other t a ≡ true
of_other t a ne = not_from_false (nat_eq a.by t) (false_from_ne_true (nat_eq a.by t) (λ e. ne (eqb-true a.by t e)))

-- without accesses
pub knows_none : (only : Option ℕ) (m : Masks) → Covers m [] → Knows only m []
knows_none None m covers = covers
knows_none (Some t) m covers = (refl, covers)

module _ (t : ℕ) (accesses : List ListedAccess) (owned : list_any (is_of_other t) accesses ≡ false) where
  -- an access of the transaction has no rivals
  pub owned_rivals : (tids : List ℕ) (key : Key) (kind : Kind) → AreRivalsAt accesses tids t key kind 0
  owned_rivals tids key kind u = (
    λ h. let (i, there, at) = h in absurd (both_ways (is_set 0 i) (none_in i) there),
    λ h. absurd (both_ways (list_any (is_of_other t) accesses) owned (any_implied (is_conflicting u key kind) (is_of_other t)
        (λ a x. of_other t a (λ e. h.0 (sym (eqb-true a.by u (and_parts (nat_eq a.by u) _ x).0) ∙ e)))
        accesses h.1)),
  )

  -- one more of it
  pub owned_noted : (a : ListedAccess) → a.by ≡ t → list_any (is_of_other t) (accesses ++ a ∷ []) ≡ false
  owned_noted a by = false_from_ne_true (list_any (is_of_other t) (accesses ++ a ∷ [])) (λ h.
      elim (any_cases (is_of_other t) accesses a h) [
        | inl old ↦ both_ways (list_any (is_of_other t) accesses) owned old
        | inr new ↦ both_ways (is_of_other t a) (of_same t a by) new
      ])

  -- all are removed
  none_passes : (p : ListedAccess → Bool) → list_any (λ (a : ListedAccess). p a && not (nat_eq a.by t)) accesses ≡ false
  none_passes p = false_from_ne_true (list_any (λ (a : ListedAccess). p a && not (nat_eq a.by t)) accesses) (λ h.
      both_ways (list_any (is_of_other t) accesses) owned
      (any_implied (λ (a : ListedAccess). p a && not (nat_eq a.by t)) (is_of_other t)
      (λ a x. (and_parts (p a) (not (nat_eq a.by t)) x).1) accesses h))

  zero_counted : (n : ℕ) → nat_lt 0 n ≡ false → n ≡ 0
  zero_counted zero h = refl
  zero_counted (suc n) h = absurd (both_ways (nat_lt 0 (suc n)) h (lt-ltb 0 (suc n) (omega arith)))

  pub owned_forgotten : (list : List ListedAccess) → StandsFor list accesses → StandsFor (forgotten t list) []
  owned_forgotten list stands = stands_forgotten list accesses [] t stands
      (λ p. sym (zero_counted (count_by (λ (a : ListedAccess). p a && not (nat_eq a.by t)) accesses)
      (sym (any_counted (λ (a : ListedAccess). p a && not (nat_eq a.by t)) accesses) ∙ none_passes p)))
      (λ k d low high. absurd (omega (arith, high)))

owned_apart : (only t : ℕ) (xs : List ListedAccess) → only ≢ t → list_any (is_of_other only) xs ≡ false
    → AllWithin (λ (a : ListedAccess). nat_eq a.by t ≡ false) xs 0 (length xs)
owned_apart only t [] ne owned k d low high = absurd (omega (arith, high))
owned_apart only t (x ∷ xs) ne owned zero d low high =
    false_from_ne_true (nat_eq x.by t) (λ e. both_ways (is_of_other only x) (or_parts (is_of_other only x) (list_any (is_of_other only) xs) owned).0
    (of_other only x (λ is. ne (sym is ∙ eqb-true x.by t e))))
owned_apart only t (x ∷ xs) ne owned (suc k) d low high =
    owned_apart only t xs ne (or_parts (is_of_other only x) (list_any (is_of_other only) xs) owned).1 k d (omega arith) (omega (arith, high))

-- so to remove that transaction changes nothing
pub owned_stays : (only t : ℕ) (list accesses : List ListedAccess) → only ≢ t → list_any (is_of_other only) accesses ≡ false
    → StandsFor list accesses → StandsFor (forgotten t list) accesses
owned_stays only t list accesses ne owned stands =
    stands_forgotten list accesses accesses t stands (λ p. refl) (owned_apart only t accesses ne owned)

-- no accesses are left
pub none_long : (xs : List ListedAccess) → length xs ≡ 0 → xs ≡ []
none_long [] h = refl
none_long (x ∷ xs) h = absurd (omega (arith, h))

pub knows_left : (m : Masks) (t : ℕ) (accesses : List ListedAccess) → accesses ≡ [] → Covers m accesses → Knows (Some t) m accesses
knows_left m t accesses none covers =
    subst (λ xs. Knows (Some t) m xs) (sym none) (refl, subst (Covers m) none covers)
