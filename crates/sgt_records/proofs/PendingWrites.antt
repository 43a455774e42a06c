-- The pending writes: what remains of them, and what one more changes.
use Rattle.std.proofs.Common.{◌≡◌, ◌≢◌, ℕ, suc, ◌+◌, ◌<◌, ◌≤◌, ℤ, Bool, true, false, cond, not, ◌||◌, nat_eq, List, [], ◌∷◌, ◌++◌, length, length-append, ◌⊎◌, take, drop, get_or, Option, Some, None, IfSome, refl, sym, ap, ap₂, ◌∙◌, subst, inl, inr, arith, add-one, append_assoc}
use Rattle.std.proofs.lemmas.Bool.{true≢false, eq-eqb, ne_eqb, cases_eq}
use Rattle.std.proofs.lemmas.List.{append-nil, take-append-drop}
use Rattle.std.proofs.Math.Seq.{take-suc}
use Rattle.std.proofs.lemmas.List.Elements.{All-filter, All-push, filter-append}
use Rattle.std.specs.BTreeMap.{BTreeMap}
use Rattle.std.specs.List.{filter}
use Rattle.std.specs.Option.{option_or, unwrap_or}
use Rattle.sgt_model.specs.Numbers.{IsValue}
use Rattle.sgt_model.specs.Contents.{Key, key_eq}
use Rattle.sgt_model.specs.Chains.{chain_without, write_last, value_in, writes_in}
use Rattle.sgt_model.proofs.Stores.{key_eq-true}
use Rattle.sgt_records.specs.declared.write.Write.{Write}
use Rattle.sgt_records.specs.Settleds.{has_record}
use Rattle.sgt_records.specs.Pendings.{chain_in, ArePending}
use Rattle.sgt_records.specs.Validity.{IsOnceIn}

-- on one chain

-- no filter adds a value
fewer : (f g : ℕ × Option ℤ → Bool) (c : List (ℕ × Option ℤ)) → length (filter f (filter g c)) ≤ length (filter f c)
fewer f g [] = omega arith
fewer f g (w ∷ c) = go (g w) (f w) refl (fewer f g c)
  where
    go : (a b : Bool) → f w ≡ b → length (filter f (filter g c)) ≤ length (filter f c)
        → length (filter f (cond a (w ∷ filter g c) (filter g c))) ≤ length (cond b (w ∷ filter f c) (filter f c))
    go true true e h = rw e (omega (arith, h))
    go true false e h = rw e h
    go false true e h = omega (arith, h)
    go false false e h = h

-- who had one value has one still
pub once_without : (t u : ℕ) (c : List (ℕ × Option ℤ)) → IsOnceIn u c → IsOnceIn u (chain_without t c)
once_without t u c h = let le = fewer (λ w. nat_eq w.0 u) (λ w. not (nat_eq w.0 t)) c in omega arith

-- t's own value is gone
none_left : (t : ℕ) (c : List (ℕ × Option ℤ)) → filter (λ w. nat_eq w.0 t) (chain_without t c) ≡ []
none_left t [] = refl
none_left t (w ∷ c) = go (nat_eq w.0 t) refl (none_left t c)
  where
    go : (b : Bool) → nat_eq w.0 t ≡ b → filter (λ w. nat_eq w.0 t) (chain_without t c) ≡ []
        → filter (λ w. nat_eq w.0 t) (cond (not b) (w ∷ chain_without t c) (chain_without t c)) ≡ []
    go true e h = h
    go false e h =
        ap (λ b. cond b (w ∷ filter (λ w. nat_eq w.0 t) (chain_without t c)) (filter (λ w. nat_eq w.0 t) (chain_without t c))) e ∙ h

-- and so after a write
pub once_written : (t : ℕ) (v : Option ℤ) (u : ℕ) (c : List (ℕ × Option ℤ)) → IsOnceIn u c → IsOnceIn u (write_last t v c)
once_written t v u c h = subst (λ l. length l ≤ 1) (sym (filter-append (λ w. nat_eq w.0 u) (chain_without t c) ((t, v) ∷ [])))
    (go (cases_eq t u))
  where
    go : (t ≡ u) ⊎ (t ≢ u) → length (filter (λ w. nat_eq w.0 u) (chain_without t c) ++ cond (nat_eq t u) ((t, v) ∷ []) []) ≤ 1
    go (inl e) = rw (eq-eqb t u e, subst (λ z. filter (λ w. nat_eq w.0 u) (chain_without z c) ≡ []) (sym e) (none_left u c)) (omega arith)
    go (inr n) = rw (ne_eqb t u n, append-nil) (once_without t u c h)

-- the remainder is no longer
pub few_filtered : (f : ℕ × Option ℤ → Bool) (c : List (ℕ × Option ℤ)) → length (filter f c) ≤ length c
few_filtered f [] = omega arith
few_filtered f (w ∷ c) = go (f w) (few_filtered f c)
  where
    go : (b : Bool) → length (filter f c) ≤ length c → length (cond b (w ∷ filter f c) (filter f c)) ≤ suc (length c)
    go true h = omega (arith, h)
    go false h = omega (arith, h)

-- and where t had a value there is capacity
pub fewer_left : (t : ℕ) (c : List (ℕ × Option ℤ)) → writes_in t c ≡ true → length (chain_without t c) < length c
fewer_left t [] h = absurd (true≢false (sym h))
fewer_left t (w ∷ c) h = go (nat_eq w.0 t) (few_filtered (λ w. not (nat_eq w.0 t)) c) (fewer_left t c) h
  where
    go : (b : Bool) → length (chain_without t c) ≤ length c → (writes_in t c ≡ true → length (chain_without t c) < length c)
        → (b || writes_in t c) ≡ true → length (cond (not b) (w ∷ chain_without t c) (chain_without t c)) < suc (length c)
    go true le less e = omega (arith, le)
    go false le less e = omega (arith, less e)

-- so a write leaves at most 32
pub few_written : (t : ℕ) (v : Option ℤ) (c : List (ℕ × Option ℤ)) → length c ≤ 32 → (writes_in t c ≡ false → length c < 32)
    → length (write_last t v c) ≤ 32
few_written t v c few capacity = go (writes_in t c) refl
  where
    longer : length (write_last t v c) ≡ length (chain_without t c) + 1
    longer = length-append (chain_without t c) ((t, v) ∷ [])

    go : (b : Bool) → writes_in t c ≡ b → length (write_last t v c) ≤ 32
    go true e = let less = fewer_left t c e in omega (arith, longer)
    go false e = let less = capacity e in let le = few_filtered (λ w. not (nat_eq w.0 t)) c in omega (arith, longer)

-- on the writes

-- those of all but one
abbrev pub not_by : ℕ → Write → Bool
not_by t w = not (nat_eq w.by t)

-- all but one transaction's of one key
abbrev pub not_this : ℕ → Key → Write → Bool
not_this t k w = not (nat_eq w.by t) || not (key_eq w.key k)

-- the chain of the remainder without t's writes
pub chain_left : (t : ℕ) (writes : List Write) (k : Key) → chain_in (filter (not_by t) writes) k ≡ chain_without t (chain_in writes k)
chain_left t [] k = refl
chain_left t (w ∷ writes) k = go (key_eq w.key k) (nat_eq w.by t) refl refl (chain_left t writes k)
  where
    go : (a b : Bool) → key_eq w.key k ≡ a → nat_eq w.by t ≡ b → chain_in (filter (not_by t) writes) k ≡ chain_without t (chain_in writes k)
        → chain_in (cond (not b) (w ∷ filter (not_by t) writes) (filter (not_by t) writes)) k ≡ chain_without t
        (cond a ((w.by, w.value) ∷ chain_in writes k) (chain_in writes k))
    go true true e f h = rw f h
    go true false e f h = rw (e, f) (ap (λ c. (w.by, w.value) ∷ c) h)
    go false true e f h = h
    go false false e f h = rw e h

-- the chain of two lists, one after the other
chain_joined : (xs ys : List Write) (k : Key) → chain_in (xs ++ ys) k ≡ chain_in xs k ++ chain_in ys k
chain_joined [] ys k = refl
chain_joined (w ∷ xs) ys k = go (key_eq w.key k) (chain_joined xs ys k)
  where
    go : (a : Bool) → chain_in (xs ++ ys) k ≡ chain_in xs k ++ chain_in ys k
        → cond a ((w.by, w.value) ∷ chain_in (xs ++ ys) k) (chain_in (xs ++ ys) k) ≡ cond a ((w.by, w.value) ∷ chain_in xs k)
        (chain_in xs k) ++ chain_in ys k
    go true h = ap (λ c. (w.by, w.value) ∷ c) h
    go false h = h

-- the chain of the key that is written loses t's value
own_chain : (t : ℕ) (writes : List Write) (k : Key) → chain_in (filter (not_this t k) writes) k ≡ chain_without t (chain_in writes k)
own_chain t [] k = refl
own_chain t (w ∷ writes) k = go (key_eq w.key k) (nat_eq w.by t) refl refl (own_chain t writes k)
  where
    rest : List Write
    rest = filter (not_this t k) writes

    go : (a b : Bool) → key_eq w.key k ≡ a → nat_eq w.by t ≡ b → chain_in rest k ≡ chain_without t (chain_in writes k)
        → chain_in (cond (not b || not a) (w ∷ rest) rest) k ≡ chain_without t (cond a ((w.by, w.value) ∷ chain_in writes k)
        (chain_in writes k))
    go true true e f h = rw f h
    go true false e f h = rw (e, f) (ap (λ c. (w.by, w.value) ∷ c) h)
    go false true e f h = rw e h
    go false false e f h = rw e h

-- the chain of another stays
other_chain : (t : ℕ) (key : Key) (writes : List Write) (k : Key) → key_eq key k ≡ false
    → chain_in (filter (not_this t key) writes) k ≡ chain_in writes k
other_chain t key [] k other = refl
other_chain t key (w ∷ writes) k other = go (key_eq w.key k) (key_eq w.key key) (nat_eq w.by t) refl refl (other_chain t key writes k other)
  where
    rest : List Write
    rest = filter (not_this t key) writes

    go : (a d b : Bool) → key_eq w.key k ≡ a → key_eq w.key key ≡ d → chain_in rest k ≡ chain_in writes k
        → chain_in (cond (not b || not d) (w ∷ rest) rest) k ≡ cond a ((w.by, w.value) ∷ chain_in writes k) (chain_in writes k)
    go true true b e f h = absurd (true≢false (sym (subst (λ j. key_eq j k ≡ true) (key_eq-true w.key key f) e) ∙ other))
    go true false true e f h = rw e (ap (λ c. (w.by, w.value) ∷ c) h)
    go true false false e f h = rw e (ap (λ c. (w.by, w.value) ∷ c) h)
    go false true true e f h = h
    go false true false e f h = rw e h
    go false false true e f h = rw e h
    go false false false e f h = rw e h

-- the writes after one more, which replaces t's earlier one
abbrev pub written : ℕ → Key → Option ℤ → List Write → List Write
written t key v writes = filter (not_this t key) writes ++ record { by = t; key = key; value = v } ∷ []

-- the remainder, with the write at the end
pub after_write : (t : ℕ) (key : Key) (v : Option ℤ) (writes left new : List Write) → left ≡ filter (not_this t key) writes
    → new ≡ left ++ record { by = t; key = key; value = v } ∷ [] → new ≡ written t key v writes
after_write t key v writes left new is added = added ∙ ap (λ (l : List Write). l ++ record { by = t; key = key; value = v } ∷ []) is

-- a write goes above all others of its key
pub chain_written : (t : ℕ) (key : Key) (v : Option ℤ) (writes : List Write) (k : Key)
    → chain_in (written t key v writes) k ≡ cond (key_eq key k) (write_last t v (chain_in writes k)) (chain_in writes k)
chain_written t key v writes k = chain_joined (filter (not_this t key) writes) (record { by = t; key = key; value = v } ∷ []) k
    ∙ go (key_eq key k) refl
  where
    go : (b : Bool) → key_eq key k ≡ b → chain_in (filter (not_this t key) writes) k ++ cond b ((t, v) ∷ []) [] ≡ cond b
        (write_last t v (chain_in writes k)) (chain_in writes k)
    go true e =
        ap (λ c. c ++ (t, v) ∷ []) (subst (λ (j : Key). chain_in (filter (not_this t j) writes) k ≡ chain_without t (chain_in writes k))
        (sym (key_eq-true key k e)) (own_chain t writes k))
    go false e = append-nil (chain_in (filter (not_this t key) writes) k) ∙ other_chain t key writes k e

module _ (records : BTreeMap Key (Option ℤ)) (writes : List Write) (are : ArePending records writes) where
  -- a record waits for the write
  abbrev IsRecorded : Write → Type 0
  IsRecorded w = has_record records w.key ≡ true

  -- the write is of a value or of none
  abbrev HasValue : Write → Type 0
  HasValue w = IfSome w.value IsValue

  -- the remainder without t's is pending
  pub pending_left : (t : ℕ) → ArePending records (filter (not_by t) writes)
  pending_left t = record {
    once = λ u k. subst (λ c. IsOnceIn u c) (sym (chain_left t writes k)) (once_without t u (chain_in writes k) (are.once u k));
    few = λ k. let le = few_filtered (λ w. not (nat_eq w.0 t)) (chain_in writes k) in let few = are.few k in
        subst (λ c. length c ≤ 32) (sym (chain_left t writes k)) (omega arith);
    recorded = All-filter (not_by t) IsRecorded writes are.recorded;
    in_range = All-filter (not_by t) HasValue writes are.in_range;
  }

  -- and so is what a write leaves
  pub pending_written : (t : ℕ) (key : Key) (v : Option ℤ) → has_record records key ≡ true → IfSome v IsValue
      → (writes_in t (chain_in writes key) ≡ false → length (chain_in writes key) < 32) → ArePending records (written t key v writes)
  pending_written t key v there in_range capacity = record {
    once = λ u k. subst (λ c. IsOnceIn u c) (sym (chain_written t key v writes k)) (single (key_eq key k) u k);
    few = λ k. subst (λ c. length c ≤ 32) (sym (chain_written t key v writes k)) (short k (key_eq key k) refl);
    recorded = All-push IsRecorded _ _ (All-filter (not_this t key) IsRecorded writes are.recorded) there;
    in_range = All-push HasValue _ _ (All-filter (not_this t key) HasValue writes are.in_range) in_range;
  }
    where
      single : (b : Bool) (u : ℕ) (k : Key) → IsOnceIn u (cond b (write_last t v (chain_in writes k)) (chain_in writes k))
      single true u k = once_written t v u (chain_in writes k) (are.once u k)
      single false u k = are.once u k

      short : (k : Key) (b : Bool) → key_eq key k ≡ b → length (cond b (write_last t v (chain_in writes k)) (chain_in writes k)) ≤ 32
      short k true e = few_written t v (chain_in writes k) (are.few k)
          (subst (λ (j : Key). writes_in t (chain_in writes j) ≡ false → length (chain_in writes j) < 32) (key_eq-true key k e) capacity)
      short k false e = are.few k

  -- records that are kept still wait for them
  pub pending_kept : (new : BTreeMap Key (Option ℤ)) → ((k : Key) → has_record records k ≡ true → has_record new k ≡ true)
      → ArePending new writes
  pending_kept new kept =
      record { once = are.once; few = are.few; recorded = λ i d short. kept _ (are.recorded i d short); in_range = are.in_range }

-- on what a commit makes committed values

-- t's value in a chain with one more at the end
value_added : (t u : ℕ) (v : Option ℤ) (c : List (ℕ × Option ℤ))
    → value_in t (c ++ (u, v) ∷ []) ≡ option_or (value_in t c) (cond (nat_eq u t) (Some v) None)
value_added t u v [] = refl
value_added t u v (w ∷ c) = go (nat_eq w.0 t) (value_added t u v c)
  where
    go : (b : Bool) → value_in t (c ++ (u, v) ∷ []) ≡ option_or (value_in t c) (cond (nat_eq u t) (Some v) None)
        → cond b (Some w.1) (value_in t (c ++ (u, v) ∷ [])) ≡ option_or (cond b (Some w.1) (value_in t c)) (cond (nat_eq u t) (Some v) None)
    go true h = refl
    go false h = h

-- before t's one value there is none
none_before : (t : ℕ) (c d : List (ℕ × Option ℤ)) (v : Option ℤ) → IsOnceIn t (c ++ (t, v) ∷ d) → value_in t c ≡ None
none_before t [] d v once = refl
none_before t (w ∷ c) d v once = go (nat_eq w.0 t) once (none_before t c d v)
  where
    one : (c : List (ℕ × Option ℤ)) → 0 < length (filter (λ w. nat_eq w.0 t) (c ++ (t, v) ∷ d))
    one [] = rw (eq-eqb t t refl) (omega arith)
    one (x ∷ c) = two (nat_eq x.0 t) (one c)
      where
        two : (b : Bool) → 0 < length (filter (λ w. nat_eq w.0 t) (c ++ (t, v) ∷ d))
            → 0 < length (cond b (x ∷ filter (λ w. nat_eq w.0 t) (c ++ (t, v) ∷ d)) (filter (λ w. nat_eq w.0 t) (c ++ (t, v) ∷ d)))
        two true h = omega arith
        two false h = h

    go : (b : Bool) → length (cond b (w ∷ filter (λ w. nat_eq w.0 t) (c ++ (t, v) ∷ d)) (filter (λ w. nat_eq w.0 t) (c ++ (t, v) ∷ d))) ≤ 1
        → (IsOnceIn t (c ++ (t, v) ∷ d) → value_in t c ≡ None) → cond b (Some w.1) (value_in t c) ≡ None
    go true short rest = absurd (let some = one c in omega arith)
    go false short rest = rest short

module _ (t : ℕ) (writes : List Write) (i : ℕ) (w : Write) (short : i < length writes) (is : w ≡ get_or writes i w) where
  -- the first ones with one more
  taken_more : take (i + 1) writes ≡ take i writes ++ w ∷ []
  taken_more = ap (λ n. take n writes) (add-one i) ∙ (take-suc writes i w short ∙ ap (λ x. take i writes ++ x ∷ []) (sym is))

  -- a chain with one more
  chain_more : (k : Key) → chain_in (take (i + 1) writes) k ≡ chain_in (take i writes) k ++ cond (key_eq w.key k) ((w.by, w.value) ∷ []) []
  chain_more k = ap (λ l. chain_in l k) taken_more ∙ chain_joined (take i writes) (w ∷ []) k

  -- the chain of a write's key, from before it to the end
  whole_chain : (k : Key) → chain_in writes k ≡ chain_in (take i writes)
      k ++ (cond (key_eq w.key k) ((w.by, w.value) ∷ []) [] ++ chain_in (drop (i + 1) writes) k)
  whole_chain k = ap (λ l. chain_in l k) (sym (take-append-drop (i + 1) writes))
      ∙ (chain_joined (take (i + 1) writes) (drop (i + 1) writes) k
      ∙ (ap (λ c. c ++ chain_in (drop (i + 1) writes) k) (chain_more k) ∙ append_assoc (chain_in (take i writes) k) _ _))

  -- a write by t becomes the committed value of its key
  pub settle_more : ((k : Key) → IsOnceIn t (chain_in writes k)) → w.by ≡ t → (k : Key) (before after opening : Option ℤ)
      → after ≡ cond (key_eq w.key k) w.value before → before ≡ unwrap_or (value_in t (chain_in (take i writes) k)) opening
      → after ≡ unwrap_or (value_in t (chain_in (take (i + 1) writes) k)) opening
  settle_more once own k before after opening put so_far = put
      ∙ (go (key_eq w.key k) refl ∙ ap (λ c. unwrap_or (value_in t c) opening) (sym (chain_more k)))
    where
      go : (b : Bool) → key_eq w.key k ≡ b → cond b w.value before ≡ unwrap_or
          (value_in t (chain_in (take i writes) k ++ cond b ((w.by, w.value) ∷ []) [])) opening
      go true e =
          let single : IsOnceIn t (chain_in (take i writes) k ++ (t, w.value) ∷ chain_in (drop (i + 1) writes) k) = subst
          (λ c. IsOnceIn t c) (whole_chain k ∙ ap₂ (λ (b : Bool) (u : ℕ). chain_in (take i writes)
          k ++ (cond b ((u, w.value) ∷ []) [] ++ chain_in (drop (i + 1) writes) k)) e own) (once k) in
          let nothing = none_before t (chain_in (take i writes) k) (chain_in (drop (i + 1) writes) k) w.value single in
          sym (ap (λ o. unwrap_or o opening) (value_added t w.by w.value (chain_in (take i writes) k)
          ∙ ap₂ (λ (o : Option (Option ℤ)) (b : Bool). option_or o (cond b (Some w.value) None)) nothing (eq-eqb w.by t own)))
      go false e = so_far ∙ ap (λ c. unwrap_or (value_in t c) opening) (sym (append-nil (chain_in (take i writes) k)))

  -- another's changes no committed value
  pub settle_other : w.by ≢ t → (k : Key) → value_in t (chain_in (take i writes) k) ≡ value_in t (chain_in (take (i + 1) writes) k)
  settle_other other k = sym (ap (value_in t) (chain_more k) ∙ go (key_eq w.key k))
    where
      or_none : (o : Option (Option ℤ)) → option_or o None ≡ o
      or_none None = refl
      or_none (Some v) = refl

      go : (b : Bool) → value_in t (chain_in (take i writes) k ++ cond b ((w.by, w.value) ∷ []) []) ≡ value_in t
          (chain_in (take i writes) k)
      go true = value_added t w.by w.value (chain_in (take i writes) k)
          ∙ (ap (λ b. option_or (value_in t (chain_in (take i writes) k)) (cond b (Some w.value) None)) (ne_eqb w.by t other)
          ∙ or_none (value_in t (chain_in (take i writes) k)))
      go false = ap (value_in t) (append-nil (chain_in (take i writes) k))
