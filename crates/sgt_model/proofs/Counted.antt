-- The access list and the chains of a history: they rest on those alone that count, and to remove some is to filter.
use Rattle.std.proofs.Common.{◌≡◌, ◌≢◌, ℕ, ◌<◌, ℤ, Bool, true, false, cond, not, ◌&&◌, ◌||◌, ◌⊎◌, List, [], ◌∷◌, ◌++◌, Option, Some, None, nat_eq, refl, sym, ap, ap₂, inl, inr, ◌∙◌, lt_of_lt_of_le}
use Rattle.std.proofs.Math.Path.{fun_ext}
use Rattle.std.proofs.lemmas.Bool.{and_parts, or_cases, eqb-true, eq-eqb, ne_eqb, cases_eq}
use Rattle.std.proofs.lemmas.List.Elements.{filter-append}
use Rattle.std.proofs.lemmas.List.Folds.{list_any-append}
use Rattle.std.proofs.lemmas.List.{append-nil}
use Rattle.std.specs.List.{list_any, filter}
use Rattle.sgt_model.specs.declared.entry.Entry.{Entry}
use Rattle.sgt_model.specs.declared.kind.Kind.{Kind}
use Rattle.sgt_model.specs.Contents.{Key, key_eq}
use Rattle.sgt_model.specs.Paths.{Member}
use Rattle.sgt_model.specs.Accesses.{Access, access_of, is_store}
use Rattle.sgt_model.specs.Fates.{start_count}
use Rattle.sgt_model.specs.Values.{stores}
use Rattle.sgt_model.specs.Pairs.{conflicts, one_stores, has_conflicting}
use Rattle.sgt_model.specs.Configurations.{Configuration}
use Rattle.sgt_model.specs.Legality.{Legal}
use Rattle.sgt_model.specs.AccessList.{ListedAccess, is_conflicting, listed_in, access_list, lists_conflicting}
use Rattle.sgt_model.specs.Chains.{chain_of, store_into, chain_without, write_last}
use Rattle.sgt_model.proofs.Facts.{access-live, live-started, starts-grow}

-- on filters

pub filter-both : {X : Type 0} (f g : X → Bool) (xs : List X) → filter f (filter g xs) ≡ filter (λ x. g x && f x) xs
filter-both f g [] = refl
filter-both f g (x ∷ xs) = go (g x) (filter-both f g xs)
  where
    go : (b : Bool) → filter f (filter g xs) ≡ filter (λ y. g y && f y) xs
        → filter f (cond b (x ∷ filter g xs) (filter g xs)) ≡ cond (b && f x) (x ∷ filter (λ y. g y && f y) xs)
        (filter (λ y. g y && f y) xs)
    go true ih = ap (λ l. cond (f x) (x ∷ l) l) ih
    go false ih = ih

pub filter-same : {X : Type 0} (f g : X → Bool) (xs : List X) → ((x : X) → f x ≡ g x) → filter f xs ≡ filter g xs
filter-same f g xs h = ap (λ t. filter t xs) (fun_ext h)

-- it is enough that the tests agree on the members
pub filter_listed : (f g : ℕ → Bool) (l : List ℕ) → ((t : ℕ) → Member t l → f t ≡ g t) → filter f l ≡ filter g l
filter_listed f g [] h = refl
filter_listed f g (t ∷ l) h = ap₂ (λ b m. cond b (t ∷ m) m) (h t (inl refl)) (filter_listed f g l (λ u m. h u (inr m)))

and_swap : (x y : Bool) → (x && y) ≡ (y && x)
and_swap true true = refl
and_swap true false = refl
and_swap false true = refl
and_swap false false = refl

pub filter-swap : {X : Type 0} (f g : X → Bool) (xs : List X) → filter f (filter g xs) ≡ filter g (filter f xs)
filter-swap f g xs = filter-both f g xs ∙ (filter-same _ _ xs (λ x. and_swap (g x) (f x)) ∙ sym (filter-both g f xs))

-- agreement

-- two tests agree at each transaction that has an access
abbrev pub AgreeOn : (ℕ → Bool) → (ℕ → Bool) → List Entry → Type 0
AgreeOn p q [] = Unit {0}
AgreeOn p q (e ∷ past) = ((a : Access) → access_of e ≡ Some a → p a.by ≡ q a.by) × AgreeOn p q past

pub legal-agree : (s : Configuration) (past : List Entry) → Legal s past → (p q : ℕ → Bool) → ((t : ℕ) → t < start_count past → p t ≡ q t)
    → AgreeOn p q past
legal-agree s [] h p q same = tt
legal-agree s (e ∷ past) h p q same = (
  (λ a is. same a.by (lt_of_lt_of_le (live-started past a.by (access-live s past e.event e.reply h.1 a is))
      (starts-grow e past))),
  legal-agree s past h.0 p q (λ t started. same t (lt_of_lt_of_le started (starts-grow e past))),
)

listed_in-agree : (p q : ℕ → Bool) (o : Option Access) → ((a : Access) → o ≡ Some a → p a.by ≡ q a.by) → listed_in p o ≡ listed_in q o
listed_in-agree p q None h = refl
listed_in-agree p q (Some a) h = ap (λ b. cond b (record { by = a.by; key = a.key; kind = a.kind } ∷ []) []) (h a refl)

stores-agree : (p q : ℕ → Bool) (k : Key) (o : Option Access) → ((a : Access) → o ≡ Some a → p a.by ≡ q a.by) → stores p k o ≡ stores q k o
stores-agree p q k None h = refl
stores-agree p q k (Some a) h = ap (λ b. cond (is_store a.kind && (key_eq a.key k && b)) (Some a) None) (h a refl)

pub access_list-agree : (p q : ℕ → Bool) (past : List Entry) → AgreeOn p q past → access_list p past ≡ access_list q past
access_list-agree p q [] h = refl
access_list-agree p q (e ∷ past) h = ap₂ (λ l m. l ++ m) (access_list-agree p q past h.1) (listed_in-agree p q (access_of e) h.0)

pub chain-agree : (p q : ℕ → Bool) (k : Key) (past : List Entry) → AgreeOn p q past → chain_of p k past ≡ chain_of q k past
chain-agree p q k [] h = refl
chain-agree p q k (e ∷ past) h = ap₂ store_into (stores-agree p q k (access_of e) h.0) (chain-agree p q k past h.1)

-- removal

kept_one : {X : Type 0} (f : X → Bool) (x : X) (b : Bool) → cond (b && f x) (x ∷ []) [] ≡ filter f (cond b (x ∷ []) [])
kept_one f x true = refl
kept_one f x false = refl

listed_in-removed : (p gone : ℕ → Bool) (o : Option Access) → listed_in (λ t. p t && not (gone t)) o ≡ filter (λ a. not (gone a.by))
    (listed_in p o)
listed_in-removed p gone None = refl
listed_in-removed p gone (Some a) = kept_one (λ (x : ListedAccess). not (gone x.by))
    (record { by = a.by; key = a.key; kind = a.kind }) (p a.by)

pub access_list-removed : (p gone : ℕ → Bool) (past : List Entry) → access_list (λ t. p t && not (gone t)) past ≡ filter
    (λ a. not (gone a.by)) (access_list p past)
access_list-removed p gone [] = refl
access_list-removed p gone (e ∷ past) = ap₂ (λ l m. l ++ m) (access_list-removed p gone past)
    (listed_in-removed p gone (access_of e)) ∙ sym (filter-append (λ a. not (gone a.by)) (access_list p past) (listed_in p (access_of e)))

module _ (gone : ℕ → Bool) where
  -- the value is not of one that is gone
  abbrev pub stays_in : ℕ × Option ℤ → Bool
  stays_in w = not (gone w.0)

  chain_without-gone : (t : ℕ) (c : List (ℕ × Option ℤ)) → gone t ≡ true → filter stays_in (chain_without t c) ≡ filter stays_in c
  chain_without-gone t c h = filter-both stays_in (λ w. not (nat_eq w.0 t)) c ∙ filter-same _ _ c (λ w. at w.0 (cases_eq w.0 t))
    where
      at : (u : ℕ) → (u ≡ t) ⊎ (u ≢ t) → (not (nat_eq u t) && not (gone u)) ≡ not (gone u)
      at u (inl e) = rw (e, eq-eqb t t refl, h) refl
      at u (inr n) = rw (ne_eqb u t n) refl

  written-stays : (t : ℕ) (v : Option ℤ) (c : List (ℕ × Option ℤ)) → gone t ≡ false → write_last t v (filter stays_in c) ≡ filter stays_in
      (write_last t v c)
  written-stays t v c h = ap₂ (λ l m. l ++ m) (filter-swap (λ w. not (nat_eq w.0 t)) stays_in c)
      (sym (ap (λ b. cond (not b) ((t, v) ∷ []) []) h)) ∙ sym (filter-append stays_in (chain_without t c) ((t, v) ∷ []))

  written-gone : (t : ℕ) (v : Option ℤ) (c : List (ℕ × Option ℤ)) → gone t ≡ true → filter stays_in c ≡ filter stays_in (write_last t v c)
  written-gone t v c h =
      sym (filter-append stays_in (chain_without t c) ((t, v) ∷ [])
      ∙ (ap₂ (λ l m. l ++ m) (chain_without-gone t c h) (ap (λ b. cond (not b) ((t, v) ∷ []) []) h) ∙ append-nil (filter stays_in c)))

  store-removed : (a : Access) (c : List (ℕ × Option ℤ)) (x y p g : Bool) → gone a.by ≡ g
      → store_into (cond (x && (y && (p && not g))) (Some a) None) (filter stays_in c) ≡ filter stays_in
      (store_into (cond (x && (y && p)) (Some a) None) c)
  store-removed a c false y p g h = refl
  store-removed a c true false p g h = refl
  store-removed a c true true false g h = refl
  store-removed a c true true true true h = written-gone a.by a.value c h
  store-removed a c true true true false h = written-stays a.by a.value c h

  chain-step : (p : ℕ → Bool) (k : Key) (o : Option Access) (c : List (ℕ × Option ℤ)) → store_into (stores (λ t. p t && not (gone t)) k o)
      (filter stays_in c) ≡ filter stays_in (store_into (stores p k o) c)
  chain-step p k None c = refl
  chain-step p k (Some a) c = store-removed a c (is_store a.kind) (key_eq a.key k) (p a.by) (gone a.by) refl

  pub chain-removed : (p : ℕ → Bool) (k : Key) (past : List Entry) → chain_of (λ t. p t && not (gone t)) k past ≡ filter stays_in
      (chain_of p k past)
  chain-removed p k [] = refl
  chain-removed p k (e ∷ past) = ap (λ c. store_into (stores (λ t. p t && not (gone t)) k (access_of e)) c) (chain-removed p k past)
      ∙ chain-step p k (access_of e) (chain_of p k past)

-- listed conflicts

or_swap : (x y : Bool) → (x || y) ≡ (y || x)
or_swap true true = refl
or_swap true false = refl
or_swap false true = refl
or_swap false false = refl

is_conflicting-one : (b : Bool) (t : ℕ) (k : Key) (kind : Kind) (x : ListedAccess) → list_any (is_conflicting t k kind)
    (cond b (x ∷ []) []) ≡ (b && is_conflicting t k kind x)
is_conflicting-one true t k kind x = go (is_conflicting t k kind x)
  where
    go : (m : Bool) → (m || false) ≡ m
    go true = refl
    go false = refl
is_conflicting-one false t k kind x = refl

is_conflicting-counted : (p : ℕ → Bool) (t : ℕ) (k : Key) (kind : Kind) (x : ListedAccess) → p t ≡ true
    → (p x.by && is_conflicting t k kind x) ≡ is_conflicting t k kind x
is_conflicting-counted p t k kind x h = go (cases_eq x.by t)
  where
    go : (x.by ≡ t) ⊎ (x.by ≢ t) → (p x.by && is_conflicting t k kind x) ≡ is_conflicting t k kind x
    go (inl e) = ap (λ b. b && is_conflicting t k kind x) (ap p e ∙ h)
    go (inr n) = let e = ne_eqb x.by t n in both (p x.by) (nat_eq x.by t) (key_eq x.key k && one_stores x.kind kind) e
      where
        both : (b c d : Bool) → c ≡ false → (b && (c && d)) ≡ (c && d)
        both true c d e = refl
        both false c d e = sym (ap (λ z. z && d) e)

conflicts-listed : (p : ℕ → Bool) (t : ℕ) (k : Key) (kind : Kind) (o : Option Access) → p t ≡ true
    → lists_conflicting (listed_in p o) t k kind ≡ conflicts o t k kind
conflicts-listed p t k kind None h = refl
conflicts-listed p t k kind (Some a) h = let x : ListedAccess = record { by = a.by; key = a.key; kind = a.kind } in
    is_conflicting-one (p a.by) t k kind x ∙ is_conflicting-counted p t k kind x h

-- of one that counts the list has each conflict
pub lists_conflicting-access_list : (p : ℕ → Bool) (t : ℕ) (k : Key) (kind : Kind) (past : List Entry) → p t ≡ true
    → lists_conflicting (access_list p past) t k kind ≡ has_conflicting past t k kind
lists_conflicting-access_list p t k kind [] h = refl
lists_conflicting-access_list p t k kind (e ∷ past) h = list_any-append (is_conflicting t k kind) (access_list p past)
    (listed_in p (access_of e)) ∙ (ap₂ (λ x y. x || y) (lists_conflicting-access_list p t k kind past h)
    (conflicts-listed p t k kind (access_of e) h) ∙ or_swap (has_conflicting past t k kind) (conflicts (access_of e) t k kind))

counts-one : (p : ℕ → Bool) (t : ℕ) (k : Key) (kind : Kind) (o : Option Access) → lists_conflicting (listed_in p o) t k kind ≡ true
    → p t ≡ true
counts-one p t k kind None h = absurd (cc)
counts-one p t k kind (Some a) h = let x : ListedAccess = record { by = a.by; key = a.key; kind = a.kind } in
    let q = and_parts _ _ (sym (is_conflicting-one (p a.by) t k kind x) ∙ h) in ap p (sym (eqb-true a.by t (and_parts _ _ q.1).0)) ∙ q.0

-- a transaction with a listed access counts
pub lists_conflicting-counts : (p : ℕ → Bool) (t : ℕ) (k : Key) (kind : Kind) (past : List Entry) → lists_conflicting
    (access_list p past) t k kind ≡ true → p t ≡ true
lists_conflicting-counts p t k kind [] h = absurd (cc)
lists_conflicting-counts p t k kind (e ∷ past) h =
    elim (or_cases _ _ (sym (list_any-append (is_conflicting t k kind) (access_list p past) (listed_in p (access_of e)))
    ∙ h)) [ inl before ↦ lists_conflicting-counts p t k kind past before | inr now ↦ counts-one p t k kind (access_of e) now ]
