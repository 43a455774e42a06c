-- Number pairs in a set, with one more, and the values of all lines.
use Rattle.std.proofs.Common.{◌≡◌, ◌⊎◌, ◌<◌, ◌+◌, ℕ, zero, suc, Bool, true, false, cond, List, [], ◌∷◌, ◌++◌, Option, Some, None, length, take, get_or, refl, sym, ap, ◌∙◌, subst, inl, inr, arith}
use Rattle.std.specs.Prelude.{slice_get}
use Rattle.std.specs.Ordering.{is_eq}
use Rattle.std.proofs.lemmas.Grind.{common_steps}
use Rattle.std.proofs.lemmas.List.{take_more}
use Rattle.sgt_appends.specs.declared.lines.Line.{Line}
use Rattle.sgt_appends.specs.Lists.{Has}
use Rattle.sgt_appends.specs.Indexes.{pair_cmp}
use Rattle.sgt_appends.specs.Lines.{KeyLines, values_or_none, values_in, AreNumbered}
use Rattle.sgt_appends.proofs.Words.{Has-append_left, Has-append_right, Has-append_cases}
use Rattle.sgt_appends.proofs.Pairs.{pair_same, pair_itself}

-- a set with one pair inserted
pub noted_pair : (key x k v : ℕ) (old new : Bool) → new ≡ cond (is_eq (pair_cmp (key, x) (k, v))) true old
    → (new ≡ true → (old ≡ true) ⊎ ((key ≡ k) × (x ≡ v))) × ((old ≡ true) ⊎ ((key ≡ k) × (x ≡ v)) → new ≡ true)
noted_pair key x k v old new is = (there (is_eq (pair_cmp (key, x) (k, v))) refl, back)
  where
    there : (b : Bool) → is_eq (pair_cmp (key, x) (k, v)) ≡ b → new ≡ true → (old ≡ true) ⊎ ((key ≡ k) × (x ≡ v))
    there true same known = inr (pair_same key x k v same)
    there false differ known = inl (sym (is ∙ ap (λ b. cond b true old) differ) ∙ known)

    either : (b : Bool) → old ≡ true → cond b true old ≡ true
    either true known = refl
    either false known = known

    back : (old ≡ true) ⊎ ((key ≡ k) × (x ≡ v)) → new ≡ true
    back (inl known) = is ∙ either (is_eq (pair_cmp (key, x) (k, v))) known
    back (inr same) =
        is ∙ ap (λ b. cond b true old) (subst (λ l. is_eq (pair_cmp (key, x) (l, v)) ≡ true) same.0
        (subst (λ w. is_eq (pair_cmp (key, x) (key, w)) ≡ true) same.1 (pair_itself key x)))

abbrev pub Either : Type 0 → Type 0 → Type 0 → Type 0
Either P Q R = (P → Q ⊎ R) × (Q ⊎ R → P)

-- one value more of the key
pub noted_one : (P Q R : Type 0) (key k v i : ℕ) (vs : List ℕ) → i < length vs → Either R P ((key ≡ k) × (get_or vs i 0 ≡ v))
    → Either P Q ((key ≡ k) × Has (take i vs) v) → Either R Q ((key ≡ k) × Has (take (i + 1) vs) v)
noted_one P Q R key k v i vs within now before = (there, back)
  where
    longer : take (i + 1) vs ≡ take i vs ++ get_or vs i 0 ∷ []
    longer = take_more vs i 0 within

    from : Q ⊎ ((key ≡ k) × Has (take i vs) v) → Q ⊎ ((key ≡ k) × Has (take (i + 1) vs) v)
    from (inl q) = inl q
    from (inr it) = inr (it.0, subst (λ xs. Has xs v) (sym longer) (Has-append_left (take i vs) (get_or vs i 0 ∷ []) v it.1))

    there : R → Q ⊎ ((key ≡ k) × Has (take (i + 1) vs) v)
    there r = elim (now.0 r) [
      | inl p ↦ from (before.0 p)
      | inr it ↦ inr (it.0, subst (λ xs. Has xs v) (sym longer) (Has-append_right (take i vs) (get_or vs i 0 ∷ []) v (inl it.1)))
    ]

    last : (key ≡ k) → Has (take i vs) v ⊎ Has (get_or vs i 0 ∷ []) v → R
    last same (inl has) = now.1 (inl (before.1 (inr (same, has))))
    last same (inr (inl is)) = now.1 (inr (same, is))
    last same (inr (inr never)) = absurd never

    back : Q ⊎ ((key ≡ k) × Has (take (i + 1) vs) v) → R
    back (inl q) = now.1 (inl (before.1 (inl q)))
    back (inr it) = last it.0 (Has-append_cases (take i vs) (get_or vs i 0 ∷ []) v (subst (λ xs. Has xs v) longer it.1))

-- the values of one key more
pub line_one : (P R : Type 0) (lines : KeyLines) (k v i : ℕ) (keys : List ℕ) → i < length keys
    → Either R P ((get_or keys i 0 ≡ k) × Has (values_in lines (get_or keys i 0)) v)
    → ((P → Has (take i keys) k × Has (values_in lines k) v) × (Has (take i keys) k × Has (values_in lines k) v → P))
    → (R → Has (take (i + 1) keys) k × Has (values_in lines k) v) × (Has (take (i + 1) keys) k × Has (values_in lines k) v → R)
line_one P R lines k v i keys within now before = (there, back)
  where
    longer : take (i + 1) keys ≡ take i keys ++ get_or keys i 0 ∷ []
    longer = take_more keys i 0 within

    there : R → Has (take (i + 1) keys) k × Has (values_in lines k) v
    there r = elim (now.0 r) [
      | inl p ↦
          let it = before.0 p in
          (subst (λ xs. Has xs k) (sym longer) (Has-append_left (take i keys) (get_or keys i 0 ∷ []) k it.0), it.1)
      | inr it ↦ (
        subst (λ xs. Has xs k) (sym longer) (Has-append_right (take i keys) (get_or keys i 0 ∷ []) k (inl it.0)),
        subst (λ l. Has (values_in lines l) v) it.0 it.1,
      )
    ]

    last : Has (values_in lines k) v → Has (take i keys) k ⊎ Has (get_or keys i 0 ∷ []) k → R
    last has (inl key) = now.1 (inl (before.1 (key, has)))
    last has (inr (inl is)) = now.1 (inr (is, subst (λ l. Has (values_in lines l) v) (sym is) has))
    last has (inr (inr never)) = absurd never

    back : Has (take (i + 1) keys) k × Has (values_in lines k) v → R
    back it = last it.1 (Has-append_cases (take i keys) (get_or keys i 0 ∷ []) k (subst (λ xs. Has xs k) longer it.0))

-- a key with values has its number
pub key_there : (lines : KeyLines) (keys : List ℕ) (k v : ℕ) → AreNumbered lines keys → Has (values_in lines k) v → Has keys k
key_there lines keys k v numbered has = go (lines k) refl has
  where
    among : (ks : List ℕ) (i : ℕ) → slice_get ks i ≡ Some k → Has ks k
    among [] i is = absurd (grind (arith, common_steps, is))
    among (x ∷ ks) zero is = inl (by is)
      where
        by : Some x ≡ Some k → x ≡ k
        by e = cc
    among (x ∷ ks) (suc i) is = inr (among ks i is)

    go : (o : Option Line) → lines k ≡ o → Has (values_or_none o) v → Has keys k
    go None is never = absurd never
    go (Some line) is there = among keys line.number (numbered k line is)
