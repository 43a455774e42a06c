-- A chain is in the order of the edges: a transaction whose value is before another's precedes that one.
use Rattle.std.proofs.Common.{◌≡◌, ◌≢◌, ℕ, ℤ, Bool, true, false, cond, not, ◌⊎◌, List, [], ◌∷◌, ◌++◌, Option, Some, None, nat_eq, refl, sym, ap, subst, inl, inr, ◌∙◌}
use Rattle.std.proofs.lemmas.Bool.{or_cases, eqb-true, eq-eqb, both_ways, cases_eq, or_left, or_right}
use Rattle.std.proofs.lemmas.List.Folds.{list_any-append}
use Rattle.std.specs.List.{filter, last_or}
use Rattle.sgt_model.specs.declared.entry.Entry.{Entry}
use Rattle.sgt_model.specs.declared.kind.Kind.{Kind}
use Rattle.sgt_model.specs.declared.kind.Kind.TheVariants.{Look, Store}
use Rattle.sgt_model.specs.Contents.{Key}
use Rattle.sgt_model.specs.Accesses.{Access, access_of, is_store}
use Rattle.sgt_model.specs.Values.{stores}
use Rattle.sgt_model.specs.Pairs.{FollowsIn, Precedes, has_conflicting}
use Rattle.sgt_model.specs.Chains.{chain_of, store_into, chain_without, write_last, writes_in}
use Rattle.sgt_model.specs.ChainOrder.{EachAfter, InOrder, IsFirstIn, IsLastIn}
use Rattle.sgt_model.proofs.Facts.{some_is}
use Rattle.sgt_model.proofs.Stores.{Stored, key_eq-true, stores-some, stored-conflicts, stored-has_conflicting}

pub each-map : (R S : ℕ → ℕ → Type 0) → ((a b : ℕ) → R a b → S a b) → (t : ℕ) (c : List (ℕ × Option ℤ)) → EachAfter R t c → EachAfter S t c
each-map R S f t [] h = tt
each-map R S f t (w ∷ c) h = (f t w.0 h.0, each-map R S f t c h.1)

pub in_order-map : (R S : ℕ → ℕ → Type 0) → ((a b : ℕ) → R a b → S a b) → (c : List (ℕ × Option ℤ)) → InOrder R c → InOrder S c
in_order-map R S f [] h = tt
in_order-map R S f (w ∷ c) h = (each-map R S f w.0 c h.0, in_order-map R S f c h.1)

pub each-filter : (R : ℕ → ℕ → Type 0) (t : ℕ) (f : ℕ × Option ℤ → Bool) (c : List (ℕ × Option ℤ)) → EachAfter R t c
    → EachAfter R t (filter f c)
each-filter R t f [] h = tt
each-filter R t f (w ∷ c) h = go (f w) (each-filter R t f c h.1)
  where
    go : (b : Bool) → EachAfter R t (filter f c) → EachAfter R t (cond b (w ∷ filter f c) (filter f c))
    go true r = (h.0, r)
    go false r = r

pub in_order-filter : (R : ℕ → ℕ → Type 0) (f : ℕ × Option ℤ → Bool) (c : List (ℕ × Option ℤ)) → InOrder R c → InOrder R (filter f c)
in_order-filter R f [] h = tt
in_order-filter R f (w ∷ c) h = go (f w) (in_order-filter R f c h.1)
  where
    go : (b : Bool) → InOrder R (filter f c) → InOrder R (cond b (w ∷ filter f c) (filter f c))
    go true r = (each-filter R w.0 f c h.0, r)
    go false r = r

pub each-add : (R : ℕ → ℕ → Type 0) (t u : ℕ) (v : Option ℤ) (c : List (ℕ × Option ℤ)) → EachAfter R t c → R t u
    → EachAfter R t (c ++ (u, v) ∷ [])
each-add R t u v [] h r = (r, tt)
each-add R t u v (w ∷ c) h r = (h.0, each-add R t u v c h.1 r)

pub in_order-add : (R : ℕ → ℕ → Type 0) (u : ℕ) (v : Option ℤ) (c : List (ℕ × Option ℤ)) → InOrder R c
    → ((t : ℕ) → writes_in t c ≡ true → R t u)
    → InOrder R (c ++ (u, v) ∷ [])
in_order-add R u v [] h r = (tt, tt)
in_order-add R u v (w ∷ c) h r = (
  each-add R w.0 u v c h.0 (r w.0 (or_left _ _ (eq-eqb w.0 w.0 refl))),
  in_order-add R u v c h.1
      (λ t m. r t (or_right _ _ m)),
)

-- along a larger relation, for those that a test keeps, or for the writers of the chain alone

pub each-within : (R S : ℕ → ℕ → Type 0) (f : ℕ → Bool) (t : ℕ) → ((b : ℕ) → f b ≡ true → R t b → S t b) → (c : List (ℕ × Option ℤ))
    → EachAfter R t c → EachAfter S t (filter (λ w. f w.0) c)
each-within R S f t g [] h = tt
each-within R S f t g (w ∷ c) h = go (f w.0) refl (each-within R S f t g c h.1)
  where
    go : (b : Bool) → f w.0 ≡ b → EachAfter S t (filter (λ x. f x.0) c)
        → EachAfter S t (cond b (w ∷ filter (λ x. f x.0) c) (filter (λ x. f x.0) c))
    go true e ih = (g w.0 e h.0, ih)
    go false e ih = ih

pub in_order-within : (R S : ℕ → ℕ → Type 0) (f : ℕ → Bool) → ((a b : ℕ) → f a ≡ true → f b ≡ true → R a b → S a b)
    → (c : List (ℕ × Option ℤ)) → InOrder R c → InOrder S (filter (λ w. f w.0) c)
in_order-within R S f g [] h = tt
in_order-within R S f g (w ∷ c) h = go (f w.0) refl (in_order-within R S f g c h.1)
  where
    go : (b : Bool) → f w.0 ≡ b → InOrder S (filter (λ x. f x.0) c) → InOrder S (cond b (w ∷ filter (λ x. f x.0) c) (filter (λ x. f x.0) c))
    go true e ih = (each-within R S f w.0 (λ b. g w.0 b e) c h.0, ih)
    go false e ih = ih

pub each-among : (R S : ℕ → ℕ → Type 0) (t : ℕ) (d : List (ℕ × Option ℤ)) → ((b : ℕ) → writes_in b d ≡ true → R t b → S t b)
    → EachAfter R t d → EachAfter S t d
each-among R S t [] g r = tt
each-among R S t (x ∷ d) g r = (
  g x.0 (or_left (nat_eq x.0 x.0) (writes_in x.0 d) (eq-eqb x.0 x.0 refl)) r.0,
  each-among R S t d (λ b m q. g b (or_right (nat_eq x.0 b) (writes_in b d) m) q) r.1,
)

pub in_order-among : (R S : ℕ → ℕ → Type 0) (c : List (ℕ × Option ℤ)) → ((a b : ℕ) → writes_in a c ≡ true → writes_in b c ≡ true → R a b
    → S a b) → InOrder R c → InOrder S c
in_order-among R S [] f h = tt
in_order-among R S (w ∷ c) f h = (
  each-among R S w.0 c (λ b m r. f w.0 b (or_left (nat_eq w.0 w.0) (writes_in w.0 c) (eq-eqb w.0 w.0 refl))
      (or_right (nat_eq w.0 b) (writes_in b c) m) r) h.0,
  in_order-among R S c
      (λ a b ma mb r. f a b (or_right (nat_eq w.0 a) (writes_in a c) ma) (or_right (nat_eq w.0 b) (writes_in b c) mb) r) h.1,
)

-- members

pub any-filter : (t : ℕ) (f : ℕ × Option ℤ → Bool) (c : List (ℕ × Option ℤ)) → writes_in t (filter f c) ≡ true → writes_in t c ≡ true
any-filter t f [] h = h
any-filter t f (w ∷ c) h = go (f w) (any-filter t f c) h
  where
    go : (b : Bool) → (writes_in t (filter f c) ≡ true → writes_in t c ≡ true)
        → writes_in t (cond b (w ∷ filter f c) (filter f c)) ≡ true → writes_in t (w ∷ c) ≡ true
    go true ih h = elim (or_cases (nat_eq w.0 t) (writes_in t (filter f c)) h) [
      | inl now ↦ or_left (nat_eq w.0 t)
          (writes_in t c) now
      | inr m ↦ or_right (nat_eq w.0 t) (writes_in t c) (ih m)
    ]
    go false ih h = or_right (nat_eq w.0 t) (writes_in t c) (ih h)

pub written-cases : (t u : ℕ) (v : Option ℤ) (c : List (ℕ × Option ℤ)) → writes_in t (write_last u v c) ≡ true
    → (writes_in t c ≡ true) ⊎ (u ≡ t)
written-cases t u v c h =
    elim (or_cases (writes_in t (chain_without u c)) (writes_in t ((u, v) ∷ []))
    (sym (list_any-append (λ w. nat_eq w.0 t) (chain_without u c) ((u, v) ∷ [])) ∙ h)) [
      | inl before ↦ inl (any-filter t _ c before)
      | inr now ↦ elim (or_cases (nat_eq u t) false now) [ inl e ↦ inr (eqb-true u t e) | inr none ↦ absurd (cc) ]
    ]

pub chain_without-apart : (t u : ℕ) (c : List (ℕ × Option ℤ)) → writes_in t (chain_without u c) ≡ true → t ≢ u
chain_without-apart t u [] h = absurd (cc)
chain_without-apart t u (w ∷ c) h = go (nat_eq w.0 u) refl (chain_without-apart t u c) h
  where
    go : (b : Bool) → nat_eq w.0 u ≡ b → (writes_in t (chain_without u c) ≡ true → t ≢ u)
        → writes_in t (cond (not b) (w ∷ chain_without u c) (chain_without u c)) ≡ true → t ≢ u
    go true e ih h = ih h
    go false e ih h =
        elim (or_cases (nat_eq w.0 t) (writes_in t (chain_without u c)) h) [
          | inl now ↦ (λ z. both_ways _ e
              (eq-eqb w.0 u (eqb-true w.0 t now ∙ z)))
          | inr later ↦ ih later
        ]

-- a transaction with a value in a chain counts, and wrote the key
pub record Wrote (p : ℕ → Bool) (k : Key) (past : List Entry) (t : ℕ) : Type 0 where
  pub counts : p t ≡ true
  pub stored : has_conflicting past t k Store ≡ true

-- what an entry does to a chain
pub record Written (p : ℕ → Bool) (k : Key) (e : Entry) (past : List Entry) : Type 0 where
  pub access : Access
  pub stored : Stored p k (access_of e) access
  pub is : chain_of p k (e ∷ past) ≡ write_last access.by access.value (chain_of p k past)

pub chain-case : (p : ℕ → Bool) (k : Key) (e : Entry) (past : List Entry)
    → (chain_of p k (e ∷ past) ≡ chain_of p k past) ⊎ Written p k e past
chain-case p k e past = go (stores p k (access_of e)) refl
  where
    go : (o : Option Access) → stores p k (access_of e) ≡ o → (chain_of p k (e ∷ past) ≡ chain_of p k past) ⊎ Written p k e past
    go None h = inl (ap (λ x. store_into x (chain_of p k past)) h)
    go (Some a) h =
        inr (record { access = a; stored = stores-some p k (access_of e) a h; is = ap (λ x. store_into x (chain_of p k past)) h })

pub chain-wrote : (p : ℕ → Bool) (k : Key) (past : List Entry) (t : ℕ) → writes_in t (chain_of p k past) ≡ true → Wrote p k past t
chain-wrote p k [] t h = absurd (cc)
chain-wrote p k (e ∷ past) t h =
    elim (chain-case p k e past) [
      | inl same ↦ later (chain-wrote p k past t (ap (writes_in t) (sym same) ∙ h))
      | inr w ↦ elim (written-cases t w.access.by _ _ (ap (writes_in t) (sym w.is) ∙ h)) [
        | inl before ↦ later
            (chain-wrote p k past t before)
        | inr e' ↦ subst (λ u. Wrote p k (e ∷ past) u) e'
            (record {
              counts = w.stored.is_counted;
              stored = stored-has_conflicting (e ∷ past) w.access.by k Store
                  (or_left _ _ (stored-conflicts p k (access_of e) w.access w.stored));
            })
      ]
    ]
  where
    later : Wrote p k past t → Wrote p k (e ∷ past) t
    later w = record { counts = w.counts; stored = or_right _ _ w.stored }

-- another before it
abbrev pub Before : List Entry → ℕ → ℕ → Type 0
Before past t u = (t ≢ u) × Precedes past t u

pub chain-ordered : (p : ℕ → Bool) (k : Key) (past : List Entry) → InOrder (Before past) (chain_of p k past)
chain-ordered p k [] = tt
chain-ordered p k (e ∷ past) =
    go (in_order-map (Before past) (Before (e ∷ past)) (λ a b h. (h.0, inr h.1)) _ (chain-ordered p k past)) (chain-case p k e past)
  where
    go : InOrder (Before (e ∷ past)) (chain_of p k past) → (chain_of p k (e ∷ past) ≡ chain_of p k past) ⊎ Written p k e past
        → InOrder (Before (e ∷ past)) (chain_of p k (e ∷ past))
    go ih (inl same) = subst (λ c. InOrder (Before (e ∷ past)) c) (sym same) ih
    go ih (inr w) = subst (λ c. InOrder (Before (e ∷ past)) c) (sym w.is) (in_order-add (Before (e ∷ past)) w.access.by
        w.access.value (chain_without w.access.by (chain_of p k past)) (in_order-filter (Before (e ∷ past)) _ _ ih)
        (λ t m. (
          chain_without-apart t w.access.by (chain_of p k past) m,
          inl (follows t (chain-wrote p k past t (any-filter t (λ x. not (nat_eq x.0 w.access.by)) (chain_of p k past) m))),
        )))
      where
        follows : (t : ℕ) → Wrote p k past t → FollowsIn past (access_of e) t w.access.by
        follows t x = subst (λ o. FollowsIn past o t w.access.by) (sym w.stored.is) (
          refl,
          subst (λ j. has_conflicting past t j w.access.kind ≡ true) (sym (key_eq-true w.access.key k w.stored.same_key))
              (at w.access.kind w.stored.stores),
        )
          where
            at : (kind : Kind) → is_store kind ≡ true → has_conflicting past t k kind ≡ true
            at Look z = absurd (cc)
            at Store z = x.stored

-- the conditions of `write` and `settle`, for any chain in order

each-last : (R : ℕ → ℕ → Type 0) (t : ℕ) (w : ℕ × Option ℤ) (c : List (ℕ × Option ℤ)) → EachAfter R t c
    → last_or (Some w) c ≡ Some w ⊎ ((z : ℕ × Option ℤ) × (last_or (Some w) c ≡ Some z) × R t z.0)
each-last R t w [] h = inl refl
each-last R t w (x ∷ c) h = inr (go x c h.0 h.1)
  where
    go : (x : ℕ × Option ℤ) (c : List (ℕ × Option ℤ)) → R t x.0 → EachAfter R t c → (z : ℕ × Option ℤ)
        × (last_or (Some x) c ≡ Some z) × R t z.0
    go x [] r h = (x, refl, r)
    go x (y ∷ c) r h = go y c h.0 h.1

last_from : (R : ℕ → ℕ → Type 0) (t : ℕ) (o : Option (ℕ × Option ℤ)) (c : List (ℕ × Option ℤ)) → InOrder R c → writes_in t c ≡ true
    → (z : ℕ × Option ℤ) × (last_or o c ≡ Some z) × ((z.0 ≡ t) ⊎ R t z.0)
last_from R t o [] h m = absurd (cc)
last_from R t o (w ∷ c) h m = elim (or_cases _ _ m) [ inl here ↦ at (eqb-true w.0 t here) | inr later ↦ last_from R t (Some w) c h.1 later ]
  where
    at : w.0 ≡ t → (z : ℕ × Option ℤ) × (last_or (Some w) c ≡ Some z) × ((z.0 ≡ t) ⊎ R t z.0)
    at e = elim (each-last R w.0 w c h.0) [ inl same ↦ (w, same, inl e) | inr x ↦ (x.0, x.1, inr (subst (λ u. R u x.0.0) e x.2)) ]

pub last_in : (o : Option (ℕ × Option ℤ)) (c : List (ℕ × Option ℤ)) (z : ℕ × Option ℤ) → last_or o c ≡ Some z
    → (o ≡ Some z) ⊎ (writes_in z.0 c ≡ true)
last_in o [] z e = inl e
last_in o (w ∷ c) z e =
    elim (last_in (Some w) c z e) [
      | inl s ↦ inr (or_left _ _ (eq-eqb w.0 z.0 (ap (λ (x : ℕ × Option ℤ). x.0) (some_is w z s))))
      | inr m ↦ inr (or_right _ _ m)
    ]

-- the last of a chain has a value in it
pub last_writes : (c : List (ℕ × Option ℤ)) (z : ℕ × Option ℤ) → last_or None c ≡ Some z → writes_in z.0 c ≡ true
last_writes c z e = elim (last_in None c z e) [ inl s ↦ absurd (cc) | inr m ↦ m ]

pub is_last : (R : ℕ → ℕ → Type 0) (t : ℕ) (c : List (ℕ × Option ℤ)) → InOrder R c → ((u : ℕ) → u ≢ t → writes_in u c ≡ true → R t u → ⊥)
    → IsLastIn t c
is_last R t c h none m = let l = last_from R t None c h m in (l.0, l.1, elim l.2 [ inl e ↦ e | inr r ↦ is_t l.0 (last_writes c l.0 l.1) r ])
  where
    is_t : (z : ℕ × Option ℤ) → writes_in z.0 c ≡ true → R t z.0 → z.0 ≡ t
    is_t z m r = elim (cases_eq z.0 t) [ inl e ↦ e | inr n ↦ absurd (none z.0 n m r) ]

pub is_first : (R : ℕ → ℕ → Type 0) (t : ℕ) (c : List (ℕ × Option ℤ)) → InOrder R c → ((u : ℕ) → u ≢ t → writes_in u c ≡ true → R u t → ⊥)
    → IsFirstIn t c
is_first R t [] h none = tt
is_first R t (w ∷ c) h none =
    λ m. elim (cases_eq w.0 t) [
      | inl e ↦ e
      | inr n ↦ absurd (none w.0 n (or_left _ _ (eq-eqb w.0 w.0 refl))
          (later c h.0 (elim (or_cases _ _ m) [ inl here ↦ absurd (n (eqb-true w.0 t here)) | inr l ↦ l ])))
    ]
  where
    later : (c : List (ℕ × Option ℤ)) → EachAfter R w.0 c → writes_in t c ≡ true → R w.0 t
    later [] h m = absurd (cc)
    later (x ∷ c) h m = elim (or_cases _ _ m) [ inl here ↦ subst (λ u. R w.0 u) (eqb-true x.0 t here) h.0 | inr l ↦ later c h.1 l ]
