-- The chains of a history against its newest writes.
use Rattle.std.proofs.Common.{◌≡◌, ◌≢◌, ℕ, ℤ, Bool, true, false, cond, not, ◌&&◌, ◌||◌, ◌⊎◌, List, [], ◌∷◌, ◌++◌, Option, Some, None, nat_eq, refl, sym, ap, ap₂, subst, inl, inr, ◌∙◌}
use Rattle.std.proofs.lemmas.Bool.{eqb-true, eq-eqb, ne_eqb, cases_eq}
use Rattle.std.specs.List.{last_or}
use Rattle.std.specs.Option.{option_or}
use Rattle.sgt_model.specs.declared.entry.Entry.{Entry}
use Rattle.sgt_model.specs.declared.kind.Kind.{Kind}
use Rattle.sgt_model.specs.declared.kind.Kind.TheVariants.{Look, Store}
use Rattle.sgt_model.specs.Contents.{Key, key_eq}
use Rattle.sgt_model.specs.Accesses.{Access, access_of, is_store}
use Rattle.sgt_model.specs.Values.{newest_store, stores}
use Rattle.sgt_model.specs.Pairs.{FollowsIn, Precedes, has_conflicting}
use Rattle.sgt_model.specs.Chains.{chain_of, store_into, value_in, chain_without, write_last}
use Rattle.sgt_model.proofs.Facts.{none_unless}
use Rattle.sgt_model.proofs.Stores.{key_eq-true, Stored, stores-some, newest-counts, found}

-- the newest write of two kinds of transactions, where none of the first kind precedes one of the second
split-step : (p q : ℕ → Bool) (k : Key) (o : Option Access) (nr np nq : Option Access) → nr ≡ option_or np nq
    → ((a : Access) → stores q k o ≡ Some a → np ≡ None) → option_or (stores (λ t. p t || q t) k o) nr ≡ option_or
    (option_or (stores p k o) np) (option_or (stores q k o) nq)
split-step p q k None nr np nq h first = h
split-step p q k (Some a) nr np nq h first = go (is_store a.kind) (key_eq a.key k) (p a.by) (q a.by) first
  where
    go : (x y b c : Bool) → ((d : Access) → cond (x && (y && c)) (Some a) None ≡ Some d → np ≡ None)
        → option_or (cond (x && (y && (b || c))) (Some a) None) nr ≡ option_or (option_or (cond (x && (y && b)) (Some a) None) np)
        (option_or (cond (x && (y && c)) (Some a) None) nq)
    go false y b c f = h
    go true false b c f = h
    go true true true c f = refl
    go true true false true f = sym (ap (λ z. option_or z (Some a)) (f a refl))
    go true true false false f = h

pub newest-split : (p q : ℕ → Bool) (k : Key) (past : List Entry) → ((t u : ℕ) → p t ≡ true → q u ≡ true → Precedes past t u → ⊥)
    → newest_store (λ t. p t || q t) k past ≡ option_or (newest_store p k past) (newest_store q k past)
newest-split p q k [] h = refl
newest-split p q k (e ∷ past) h = split-step p q k (access_of e) _ _ _ (newest-split p q k past (λ t u x y z. h t u x y (inr z)))
    (λ a now. none_unless (newest_store p k past) (λ g before. let st = stores-some q k (access_of e) a now in
    h g.by a.by (newest-counts p k past g before).0 st.is_counted (inl (follows g a st ((found p k past g before).access_list Store)))))
  where
    follows : (g a : Access) → Stored q k (access_of e) a → has_conflicting past g.by k Store ≡ true
        → FollowsIn past (access_of e) g.by a.by
    follows g a st access_list = subst (λ o. FollowsIn past o g.by a.by) (sym st.is)
        (refl, subst (λ j. has_conflicting past g.by j a.kind ≡ true) (sym (key_eq-true a.key k st.same_key)) (at_kind a.kind st.stores))
      where
        at_kind : (kind : Kind) → is_store kind ≡ true → has_conflicting past g.by k kind ≡ true
        at_kind Look z = absurd (cc)
        at_kind Store z = access_list

-- the last of a chain is the newest write

-- a write in a chain
abbrev pub entry_of : Option Access → Option (ℕ × Option ℤ)
entry_of None = None
entry_of (Some a) = Some (a.by, a.value)

last_or-added : {X : Type 0} (o : Option X) (xs : List X) (x : X) → last_or o (xs ++ x ∷ []) ≡ Some x
last_or-added o [] x = refl
last_or-added o (y ∷ xs) x = last_or-added (Some y) xs x

last-step : (o : Option Access) (c : List (ℕ × Option ℤ)) (n : Option Access) → last_or None c ≡ entry_of n
    → last_or None (store_into o c) ≡ entry_of (option_or o n)
last-step None c n h = h
last-step (Some a) c n h = last_or-added None (chain_without a.by c) (a.by, a.value)

pub chain-last : (p : ℕ → Bool) (k : Key) (past : List Entry) → last_or None (chain_of p k past) ≡ entry_of (newest_store p k past)
chain-last p k [] = refl
chain-last p k (e ∷ past) = last-step (stores p k (access_of e)) (chain_of p k past) (newest_store p k past) (chain-last p k past)

-- t's value in a chain is its newest write

value_in-append : (t : ℕ) (xs ys : List (ℕ × Option ℤ)) → value_in t (xs ++ ys) ≡ option_or (value_in t xs) (value_in t ys)
value_in-append t [] ys = refl
value_in-append t (w ∷ xs) ys = go (nat_eq w.0 t) (value_in-append t xs ys)
  where
    go : (b : Bool) → value_in t (xs ++ ys) ≡ option_or (value_in t xs) (value_in t ys) → cond b (Some w.1)
        (value_in t (xs ++ ys)) ≡ option_or (cond b (Some w.1) (value_in t xs)) (value_in t ys)
    go true h = refl
    go false h = h

pub value_in-without : (t : ℕ) (c : List (ℕ × Option ℤ)) → value_in t (chain_without t c) ≡ None
value_in-without t [] = refl
value_in-without t (w ∷ c) = go (nat_eq w.0 t) refl (value_in-without t c)
  where
    go : (b : Bool) → nat_eq w.0 t ≡ b → value_in t (chain_without t c) ≡ None
        → value_in t (cond (not b) (w ∷ chain_without t c) (chain_without t c)) ≡ None
    go true e h = h
    go false e h = ap (λ b. cond b (Some w.1) (value_in t (chain_without t c))) e ∙ h

value_in-other : (t u : ℕ) (c : List (ℕ × Option ℤ)) → u ≢ t → value_in t (chain_without u c) ≡ value_in t c
value_in-other t u [] n = refl
value_in-other t u (w ∷ c) n = go (nat_eq w.0 u) refl (value_in-other t u c n)
  where
    go : (b : Bool) → nat_eq w.0 u ≡ b → value_in t (chain_without u c) ≡ value_in t c
        → value_in t (cond (not b) (w ∷ chain_without u c) (chain_without u c)) ≡ cond (nat_eq w.0 t) (Some w.1) (value_in t c)
    go true e h = h ∙ sym (ap (λ b. cond b (Some w.1) (value_in t c)) (ne_eqb w.0 t (λ z. n (sym (eqb-true w.0 u e) ∙ z))))
    go false e h = ap (λ z. cond (nat_eq w.0 t) (Some w.1) z) h

-- the value that is stored, if there is a write
abbrev pub stored_value : Option Access → Option (Option ℤ)
stored_value None = None
stored_value (Some a) = Some a.value

written-own : (t : ℕ) (v : Option ℤ) (c : List (ℕ × Option ℤ)) → value_in t (write_last t v c) ≡ Some v
written-own t v c = value_in-append t (chain_without t c) ((t, v) ∷ [])
    ∙ (ap₂ (λ x b. option_or x (cond b (Some v) None)) (value_in-without t c) (eq-eqb t t refl))

written-other : (t u : ℕ) (v : Option ℤ) (c : List (ℕ × Option ℤ)) → u ≢ t → value_in t (write_last u v c) ≡ value_in t c
written-other t u v c n = value_in-append t (chain_without u c) ((u, v) ∷ [])
    ∙ (ap₂ (λ x b. option_or x (cond b (Some v) None)) (value_in-other t u c n) (ne_eqb u t n) ∙ or_none (value_in t c))
  where
    or_none : (x : Option (Option ℤ)) → option_or x None ≡ x
    or_none None = refl
    or_none (Some y) = refl

value-step : (p : ℕ → Bool) (t : ℕ) (k : Key) (o : Option Access) (c : List (ℕ × Option ℤ)) (n : Option Access) → p t ≡ true
    → value_in t c ≡ stored_value n → value_in t (store_into (stores p k o) c) ≡ stored_value (option_or (stores (λ u. nat_eq t u) k o) n)
value-step p t k None c n pt h = h
value-step p t k (Some a) c n pt h = by (is_store a.kind) (key_eq a.key k) (cases_eq a.by t)
  where
    by : (x y : Bool) → (a.by ≡ t) ⊎ (a.by ≢ t) → value_in t (store_into (cond (x && (y && p a.by)) (Some a) None) c) ≡ stored_value
        (option_or (cond (x && (y && nat_eq t a.by)) (Some a) None) n)
    by false y z = h
    by true false z = h
    by true true (inl e) = ap₂ (λ u b. value_in t (store_into (cond b (Some a) None) c)) e (ap p e ∙ pt)
        ∙ (subst (λ u. value_in t (write_last u a.value c) ≡ Some a.value) (sym e)
        (written-own t a.value c) ∙ sym (ap (λ b. stored_value (option_or (cond b (Some a) None) n))
        (eq-eqb t a.by (sym e))))
    by true true (inr d) =
        other (p a.by) ∙ (h ∙ sym (ap (λ b. stored_value (option_or (cond b (Some a) None) n)) (ne_eqb t a.by (λ z. d (sym z)))))
      where
        other : (b : Bool) → value_in t (store_into (cond b (Some a) None) c) ≡ value_in t c
        other true = written-other t a.by a.value c d
        other false = refl

pub chain-value : (p : ℕ → Bool) (t : ℕ) (k : Key) (past : List Entry) → p t ≡ true → value_in t (chain_of p k past) ≡ stored_value
    (newest_store (λ u. nat_eq t u) k past)
chain-value p t k [] h = refl
chain-value p t k (e ∷ past) h = value-step p t k (access_of e) (chain_of p k past) (newest_store (λ u. nat_eq t u) k past) h
    (chain-value p t k past h)
