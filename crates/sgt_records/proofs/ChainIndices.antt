-- The index of a writer in a chain, and what remains without it.
use Rattle.std.proofs.Common.{◌≡◌, ℕ, zero, suc, ◌+◌, ◌<◌, ◌≤◌, ℤ, Bool, true, false, cond, not, ◌||◌, nat_eq, List, [], ◌∷◌, length, slice_index_or, slice_get, ◌-◌, Option, Some, None, refl, sym, ap, ◌∙◌, subst, arith}
use Rattle.std.proofs.lemmas.Bool.{true≢false}
use Rattle.std.specs.List.{filter, remove, position_from, last_or}
use Rattle.std.specs.Option.{is_some}
use Rattle.sgt_model.specs.Chains.{chain_without, value_in, writes_in}
use Rattle.sgt_records.specs.Validity.{IsOnceIn}
use Rattle.sgt_records.proofs.PendingWrites.{few_filtered, fewer_left}

-- who doesn't write in a chain leaves it as it is
pub left_whole : (t : ℕ) (c : List (ℕ × Option ℤ)) → writes_in t c ≡ false → chain_without t c ≡ c
left_whole t [] h = refl
left_whole t (w ∷ c) h = go (nat_eq w.0 t) h (left_whole t c)
  where
    go : (b : Bool) → (b || writes_in t c) ≡ false → (writes_in t c ≡ false → chain_without t c ≡ c)
        → cond (not b) (w ∷ chain_without t c) (chain_without t c) ≡ w ∷ c
    go true h rest = absurd (true≢false h)
    go false h rest = ap (λ l. w ∷ l) (rest h)

-- and has no value there
pub no_value : (t : ℕ) (c : List (ℕ × Option ℤ)) → writes_in t c ≡ false → value_in t c ≡ None
no_value t [] h = refl
no_value t (w ∷ c) h = go (nat_eq w.0 t) h (no_value t c)
  where
    go : (b : Bool) → (b || writes_in t c) ≡ false → (writes_in t c ≡ false → value_in t c ≡ None) → cond b (Some w.1) (value_in t c) ≡ None
    go true h rest = absurd (true≢false h)
    go false h rest = rest h

-- who writes in a chain has a value there
pub has_value : (t : ℕ) (c : List (ℕ × Option ℤ)) → is_some (value_in t c) ≡ writes_in t c
has_value t [] = refl
has_value t (w ∷ c) = go (nat_eq w.0 t) (has_value t c)
  where
    go : (b : Bool) → is_some (value_in t c) ≡ writes_in t c → is_some (cond b (Some w.1) (value_in t c)) ≡ (b || writes_in t c)
    go true rest = refl
    go false rest = rest

-- t is at this index, and nowhere before it
abbrev pub IsFirstAt : ℕ → List (ℕ × Option ℤ) → ℕ → Type 0
IsFirstAt t [] n = ⊥
IsFirstAt t (w ∷ c) zero = nat_eq w.0 t ≡ true
IsFirstAt t (w ∷ c) (suc n) = (nat_eq w.0 t ≡ false) × IsFirstAt t c n

-- a search that fails
pub not_found : (t i : ℕ) (c : List (ℕ × Option ℤ)) → position_from (λ w. nat_eq w.0 t) i c ≡ None → writes_in t c ≡ false
not_found t i [] h = refl
not_found t i (w ∷ c) h = go (nat_eq w.0 t) h (not_found t (i + 1) c)
  where
    go : (b : Bool) → cond b (Some i) (position_from (λ w. nat_eq w.0 t) (i + 1) c) ≡ None
        → (position_from (λ w. nat_eq w.0 t) (i + 1) c ≡ None → writes_in t c ≡ false) → (b || writes_in t c) ≡ false
    go true h rest = absurd (true≢false (ap is_some h))
    go false h rest = rest h

-- a search that finds
found_from : (t i : ℕ) (c : List (ℕ × Option ℤ)) (p : ℕ) → position_from (λ w. nat_eq w.0 t) i c ≡ Some p
    → (n : ℕ) × (p ≡ i + n) × IsFirstAt t c n
found_from t i [] p h = absurd (true≢false (sym (ap is_some h)))
found_from t i (w ∷ c) p h = go (nat_eq w.0 t) refl h (found_from t (i + 1) c p)
  where
    go : (b : Bool) → nat_eq w.0 t ≡ b → cond b (Some i) (position_from (λ w. nat_eq w.0 t) (i + 1) c) ≡ Some p
        → (position_from (λ w. nat_eq w.0 t) (i + 1) c ≡ Some p → (n : ℕ) × (p ≡ (i + 1) + n) × IsFirstAt t c n)
        → (n : ℕ) × (p ≡ i + n) × IsFirstAt t (w ∷ c) n
    go true e h rest = (0, grind (arith, h), e)
    go false e h rest = let next = rest h in (suc next.0, (let at = next.1 in omega (arith, at)), (e, next.2))

pub found : (t : ℕ) (c : List (ℕ × Option ℤ)) (p : ℕ) → position_from (λ w. nat_eq w.0 t) 0 c ≡ Some p → IsFirstAt t c p
found t c p h =
    let at = found_from t 0 c p h in
    let same : p ≡ at.0 = (let is = at.1 in omega (arith, is)) in
    subst (λ n. IsFirstAt t c n) (sym same) at.2

-- the index is in the chain
pub at_index : (t : ℕ) (c : List (ℕ × Option ℤ)) (n : ℕ) → IsFirstAt t c n → n < length c
at_index t [] n h = absurd h
at_index t (w ∷ c) zero h = omega arith
at_index t (w ∷ c) (suc n) h = let le = at_index t c n h.1 in omega (arith, le)

-- there stands t's value
pub value_at : (t : ℕ) (c : List (ℕ × Option ℤ)) (n : ℕ) (w : ℕ × Option ℤ) → IsFirstAt t c n → value_in t c ≡ Some (slice_index_or c n w).1
value_at t [] n w h = absurd h
value_at t (x ∷ c) zero w h = ap (λ b. cond b (Some x.1) (value_in t c)) h
value_at t (x ∷ c) (suc n) w h = ap (λ b. cond b (Some x.1) (value_in t c)) h.0 ∙ value_at t c n w h.1

-- a chain that has no value of t's is of others' alone
no_others : (t : ℕ) (c : List (ℕ × Option ℤ)) → length (filter (λ w. nat_eq w.0 t) c) ≤ 0 → writes_in t c ≡ false
no_others t [] h = refl
no_others t (w ∷ c) h = go (nat_eq w.0 t) h (no_others t c)
  where
    go : (b : Bool) → length (cond b (w ∷ filter (λ w. nat_eq w.0 t) c) (filter (λ w. nat_eq w.0 t) c)) ≤ 0
        → (length (filter (λ w. nat_eq w.0 t) c) ≤ 0 → writes_in t c ≡ false) → (b || writes_in t c) ≡ false
    go true h rest = absurd (omega (arith, h))
    go false h rest = rest h

-- without the value at the index, nothing of t's is left
pub taken_out : (t : ℕ) (c : List (ℕ × Option ℤ)) (n : ℕ) → IsFirstAt t c n → IsOnceIn t c → remove c n ≡ chain_without t c
taken_out t [] n h once = absurd h
taken_out t (w ∷ c) zero h once = go (nat_eq w.0 t) h once
  where
    go : (b : Bool) → b ≡ true → length (cond b (w ∷ filter (λ w. nat_eq w.0 t) c) (filter (λ w. nat_eq w.0 t) c)) ≤ 1
        → c ≡ cond (not b) (w ∷ chain_without t c) (chain_without t c)
    go true h once = sym (left_whole t c (no_others t c (omega (arith, once))))
    go false h once = absurd (true≢false (sym h))
taken_out t (w ∷ c) (suc n) h once = go (nat_eq w.0 t) h.0 once (taken_out t c n h.1)
  where
    go : (b : Bool) → b ≡ false → length (cond b (w ∷ filter (λ w. nat_eq w.0 t) c) (filter (λ w. nat_eq w.0 t) c)) ≤ 1
        → (IsOnceIn t c → remove c n ≡ chain_without t c) → w ∷ remove c n ≡ cond (not b) (w ∷ chain_without t c) (chain_without t c)
    go true h once rest = absurd (true≢false h)
    go false h once rest = ap (λ l. w ∷ l) (rest once)

-- once t's value is out, there is capacity for another
pub capacity_left : (t : ℕ) (c : List (ℕ × Option ℤ)) → length c ≤ 32 → (writes_in t c ≡ false → length c < 32)
    → length (chain_without t c) < 32
capacity_left t c few capacity = go (writes_in t c) refl
  where
    go : (b : Bool) → writes_in t c ≡ b → length (chain_without t c) < 32
    go true e = let less = fewer_left t c e in omega (arith, less)
    go false e = let less = capacity e in let le = few_filtered (λ w. not (nat_eq w.0 t)) c in omega (arith, less)

-- the last of a chain by its index
pub last_get : (c : List (ℕ × Option ℤ)) → last_or None c ≡ slice_get c (length c - 1)
last_get [] = refl
last_get (w ∷ c) =
    let one : length c ≡ suc (length c) - 1 = omega arith in
    last_cons w c None ∙ ap (λ n. slice_get (w ∷ c) n) one
  where
    last_cons : (w : ℕ × Option ℤ) (c : List (ℕ × Option ℤ)) (d : Option (ℕ × Option ℤ)) → last_or d (w ∷ c) ≡ slice_get (w ∷ c) (length c)
    last_cons w [] d = refl
    last_cons w (x ∷ c) d = last_cons x c (Some w)
