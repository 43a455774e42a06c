-- Writes of a key, the newest one under a test of who counts, and what comes before it.
use Rattle.std.specs.Option.{option_or}
use Rattle.std.specs.Prelude.{◌≡◌, ◌≢◌, ℕ, ℤ, Bool, true, false, ◌&&◌, cond, ◌⊎◌, nat_eq, List, [], ◌∷◌, ◌++◌, Option, Some, None}
use Rattle.std.specs.Ordering.{int_eq}
use Rattle.std.proofs.Common.{refl, sym, ap, ◌∙◌, subst, subst₂, inl, inr, ⊎_elim}
use Rattle.std.proofs.lemmas.Option.{none-some, same_Some}
use Rattle.std.proofs.lemmas.Bool.{and_parts, and_from, or_cases, or_left, or_right, eq-eqb, eqb-true, cases_Bool, cases_eq, false_from_ne_true, true≢false, cond-true, cond-false}
use Rattle.std.proofs.lemmas.Bool.Decides.{Decides-int_eq}
use Rattle.sgt_model.specs.declared.entry.Entry.{Entry}
use Rattle.sgt_model.specs.declared.kind.Kind.{Kind}
use Rattle.sgt_model.specs.declared.kind.Kind.TheVariants.{Look, Store}
use Rattle.sgt_model.specs.Contents.{Key, key_eq}
use Rattle.sgt_model.specs.Accesses.{Access, is_store, access_of}
use Rattle.sgt_model.specs.Values.{stores, newest_store, value_or}
use Rattle.sgt_model.specs.ReadFrom.{IsBy}
use Rattle.sgt_model.specs.Pairs.{one_stores, conflicts, has_conflicting, FollowsIn, Precedes}
use Rattle.sgt_model.proofs.Facts.{some_is, option_or-cases, conflicts-access}

-- on keys

pub key_eq-true : (a b : Key) → key_eq a b ≡ true → a ≡ b
key_eq-true a b h =
    let both = and_parts (nat_eq a.0 b.0) (int_eq a.1 b.1) h in
    let first : a.0 ≡ b.0 = eqb-true a.0 b.0 both.0 in
    let second : a.1 ≡ b.1 = (Decides-int_eq a.1 b.1).0 both.1 in
    λ i. (first i, second i)

pub key_eq-refl : (a : Key) → key_eq a a ≡ true
key_eq-refl a = and_from (nat_eq a.0 a.0) (int_eq a.1 a.1) (eq-eqb a.0 a.0 refl) ((Decides-int_eq a.1 a.1).1 refl)

-- on one write

pub record Stored (counts : ℕ → Bool) (k : Key) (o : Option Access) (a : Access) : Type 0 where
  pub is : o ≡ Some a
  pub stores : is_store a.kind ≡ true
  pub same_key : key_eq a.key k ≡ true
  pub is_counted : counts a.by ≡ true

pub stores-some : (counts : ℕ → Bool) (k : Key) (o : Option Access) (a : Access) → stores counts k o ≡ Some a → Stored counts k o a
stores-some counts k None a e = absurd (cc)
stores-some counts k (Some b) a e = go (is_store b.kind && (key_eq b.key k && counts b.by)) refl e
  where
    go : (t : Bool) → (is_store b.kind && (key_eq b.key k && counts b.by)) ≡ t → cond t (Some b) None ≡ Some a → Stored counts k (Some b) a
    go true h e = let p = and_parts _ _ h in let q = and_parts _ _ p.1 in subst (λ x. Stored counts k (Some b) x) (some_is b a e)
        (record { is = refl; stores = p.0; same_key = q.0; is_counted = q.1 })
    go false h e = absurd (cc)

store_conflicting : (kind : Kind) → is_store kind ≡ true → one_stores kind Look ≡ true
store_conflicting Look h = h
store_conflicting Store h = refl

pub stored-conflicts : (counts : ℕ → Bool) (k : Key) (o : Option Access) (a : Access) → Stored counts k o a → conflicts o a.by k Look ≡ true
stored-conflicts counts k o a h = ap (λ x. conflicts x a.by k Look) h.is ∙ and_from _ _ (eq-eqb a.by a.by refl)
    (and_from _ _ h.same_key (store_conflicting a.kind h.stores))

stores_from : (counts : ℕ → Bool) (k : Key) (o : Option Access) (a : Access) → Stored counts k o a → stores counts k o ≡ Some a
stores_from counts k o a st = ap (λ x. stores counts k x) st.is ∙ cond-true _ (Some a) None
    (and_from _ _ st.stores (and_from _ _ st.same_key st.is_counted))

one_stores_any : (a b : Kind) → one_stores a Look ≡ true → one_stores a b ≡ true
one_stores_any Look b h = absurd (cc)
one_stores_any Store b h = refl

is_store_from : (a : Kind) → one_stores a Look ≡ true → is_store a ≡ true
is_store_from Look h = h
is_store_from Store h = refl

conflicts_any : (o : Option Access) (t : ℕ) (k : Key) (kind : Kind) → conflicts o t k Look ≡ true → conflicts o t k kind ≡ true
conflicts_any None t k kind h = absurd (cc)
conflicts_any (Some a) t k kind h = let p = and_parts _ _ h in let q = and_parts _ _ p.1 in
    and_from _ _ p.0 (and_from _ _ q.0 (one_stores_any a.kind kind q.1))

-- a transaction that has written the key has an access that conflicts with any of it
pub stored-has_conflicting : (past : List Entry) (t : ℕ) (k : Key) (kind : Kind) → has_conflicting past t k Look ≡ true
    → has_conflicting past t k kind ≡ true
stored-has_conflicting [] t k kind h = absurd (cc)
stored-has_conflicting (e ∷ past) t k kind h =
    elim (or_cases _ _ h) [
      | inl now ↦ or_left _ _ (conflicts_any (access_of e) t k kind now)
      | inr before ↦ or_right _ _ (stored-has_conflicting past t k kind before)
    ]

pub follows_from : (past : List Entry) (o : Option Access) (a : Access) (t u : ℕ) → o ≡ Some a → a.by ≡ u
    → has_conflicting past t a.key a.kind ≡ true → FollowsIn past o t u
follows_from past o a t u is by access_list = subst (λ x. FollowsIn past x t u) (sym is) (by, access_list)

-- on the newest write that counts

-- the newest write that counts is one that counts, and its transaction wrote the key
pub newest-counts : (counts : ℕ → Bool) (k : Key) (past : List Entry) (a : Access) → newest_store counts k past ≡ Some a
    → (counts a.by ≡ true) × (has_conflicting past a.by k Look ≡ true)
newest-counts counts k [] a e = absurd (cc)
newest-counts counts k (e ∷ past) a h =
    elim (option_or-cases (stores counts k (access_of e))
    (newest_store counts k past) a h) [
      | inl now ↦ let st = stores-some counts k _ a now in
          (st.is_counted, or_left _ _ (stored-conflicts counts k _ a st))
      | inr before ↦ let p = newest-counts counts k past a before.1 in
          (p.0, or_right _ _ p.1)
    ]

pub is_by : (o : Option Access) (u : ℕ) → IsBy o u → (a : Access) × (o ≡ Some a) × (a.by ≡ u)
is_by None u h = absurd h
is_by (Some a) u h = (a, refl, h)

pub newest-by : (counts : ℕ → Bool) (k : Key) (past : List Entry) (u : ℕ) → IsBy (newest_store counts k past) u
    → (counts u ≡ true) × (has_conflicting past u k Look ≡ true)
newest-by counts k past u h = let b = is_by _ u h in let p = newest-counts counts k past b.0 b.1 in
    (subst (λ v. counts v ≡ true) b.2 p.0, subst (λ v. has_conflicting past v k Look ≡ true) b.2 p.1)

-- a write follows the earlier writes of its key
pub store_follows : (counts : ℕ → Bool) (past : List Entry) (k : Key) (o : Option Access) (a : Access) (t u : ℕ)
    → Stored counts k o a → a.by ≡ u → has_conflicting past t k Look ≡ true → FollowsIn past o t u
store_follows counts past k o a t u st by h =
    follows_from past o a t u st.is by (subst (λ (x : Key). has_conflicting past t x a.kind ≡ true)
    (sym (key_eq-true a.key k st.same_key)) (stored-has_conflicting past t k a.kind h))

-- the newest write that counts comes after those of the others that count
pub newest-precedes : (counts : ℕ → Bool) (k : Key) (past : List Entry) (t u : ℕ) → t ≢ u → counts t ≡ true
    → has_conflicting past t k Look ≡ true → IsBy (newest_store counts k past) u → Precedes past t u
newest-precedes counts k [] t u apart counted h newest = newest
newest-precedes counts k (e ∷ past) t u apart counted h newest =
    go (is_by _ u newest) (or_cases _ _ h) (λ h' newest'. newest-precedes counts k past t u apart counted h' newest')
  where
    now_store : conflicts (access_of e) t k Look ≡ true → (c : Access) × Stored counts k (access_of e) c × (c.by ≡ t)
    now_store now = let c = conflicts-access _ t k Look now in (
      c.access,
      record {
        is = c.is;
        stores = is_store_from _ c.one_stores;
        same_key = c.same_key;
        is_counted = subst (λ v. counts v ≡ true) (sym c.by) counted;
      },
      c.by,
    )

    go : (a : Access) × (option_or (stores counts k (access_of e)) (newest_store counts k past) ≡ Some a) × (a.by ≡ u)
        → (conflicts (access_of e) t k Look ≡ true) ⊎ (has_conflicting past t k Look ≡ true)
        → (has_conflicting past t k Look ≡ true → IsBy (newest_store counts k past) u → Precedes past t u)
        → FollowsIn past (access_of e) t u ⊎ Precedes past t u
    go (a, is, by) access_list rest =
        elim (option_or-cases (stores counts k (access_of e))
        (newest_store counts k past) a is) [
          | inl a_now ↦ elim access_list [
            | inl now ↦ let c = now_store now in
                absurd (apart (sym c.2 ∙ (ap (λ (x : Access). x.by) (some_is c.0 a (sym (stores_from counts k _ c.0 c.1) ∙ a_now)) ∙ by)))
            | inr before ↦ inl (store_follows counts past k _ a t u (stores-some counts k _ a a_now) by before)
          ]
          | inr a_before ↦ elim access_list [
            | inl now ↦ let c = now_store now in
                absurd (cc (sym (stores_from counts k _ c.0 c.1) ∙ a_before.0))
            | inr before ↦ inr (rest before (subst (λ o. IsBy o u) (sym a_before.1) by))
          ]
        ]

-- the newest write that counts is by one that counts, and conflicts with each access of its key
pub record Found (q : ℕ → Bool) (k : Key) (l : List Entry) (a : Access) : Type 0 where
  pub counts : q a.by ≡ true
  pub access_list : (kind : Kind) → has_conflicting l a.by k kind ≡ true

pub found : (q : ℕ → Bool) (k : Key) (l : List Entry) (a : Access) → newest_store q k l ≡ Some a → Found q k l a
found q k l a h = let p = newest-counts q k l a h in record { counts = p.0; access_list = λ kind. stored-has_conflicting l a.by k kind p.1 }

-- whether an access is a write does not depend on who counts

-- an access is a write of the key
pub record StoreOf (k : Key) (x : Option Access) : Type 0 where
  pub a : Access
  pub is : x ≡ Some a
  pub kind : a.kind ≡ Store
  pub key : a.key ≡ k
  pub gives : (q : ℕ → Bool) → stores q k x ≡ cond (q a.by) (Some a) None

stores_by : (k : Key) (a : Access) (kind : Kind) → a.kind ≡ kind → (b : Bool) → key_eq a.key k ≡ b
    → StoreOf k (Some a) ⊎ ((q : ℕ → Bool) → stores q k (Some a) ≡ None)
stores_by k a Look h b g = inr (λ p. simp h)
stores_by k a Store h true g = inl (record { a = a; is = refl; kind = h; key = key_eq-true a.key k g; gives = λ p. simp (h, g) })
stores_by k a Store h false g = inr (λ p. simp (h, g))

-- whether an access is a write of the key does not depend on who counts
pub store_or_not : (k : Key) (x : Option Access) → StoreOf k x ⊎ ((q : ℕ → Bool) → stores q k x ≡ None)
store_or_not k None = inr (λ q. refl)
store_or_not k (Some a) = stores_by k a a.kind refl (key_eq a.key k) refl

-- the first entry does not count
pub newest_skip : (q : ℕ → Bool) (k : Key) (e : Entry) (l : List Entry) → stores q k (access_of e) ≡ None
    → newest_store q k (e ∷ l) ≡ newest_store q k l
newest_skip q k e l h = ap (λ x. option_or x (newest_store q k l)) h

-- the first entry counts
pub newest_here : (q : ℕ → Bool) (k : Key) (e : Entry) (l : List Entry) (a : Access) → stores q k (access_of e) ≡ Some a
    → newest_store q k (e ∷ l) ≡ Some a
newest_here q k e l a h = ap (λ x. option_or x (newest_store q k l)) h

-- a write by one that does not count
pub not_counted : (q : ℕ → Bool) (k : Key) (x : Option Access) (v : StoreOf k x) → q v.a.by ≡ false → stores q k x ≡ None
not_counted q k x v h = v.gives q ∙ cond-false (q v.a.by) (Some v.a) None h

pub counted : (q : ℕ → Bool) (k : Key) (x : Option Access) (v : StoreOf k x) → q v.a.by ≡ true → stores q k x ≡ Some v.a
counted q k x v h = v.gives q ∙ cond-true (q v.a.by) (Some v.a) None h

-- two tests that agree along the scan: what counts under p counts under q, and the newest under q counts under p
pub newest_agree : (p q : ℕ → Bool) (k : Key) (l : List Entry) → ((u : ℕ) → p u ≡ true → q u ≡ true)
    → ((a : Access) → newest_store q k l ≡ Some a → p a.by ≡ true) → newest_store p k l ≡ newest_store q k l
newest_agree p q k [] below here = refl
newest_agree p q k (e ∷ l) below here = at_entry (newest_agree p q k l below) (store_or_not k (access_of e))
  where
    skips : stores p k (access_of e) ≡ None → stores q k (access_of e) ≡ None
        → (((a : Access) → newest_store q k l ≡ Some a → p a.by ≡ true) → newest_store p k l ≡ newest_store q k l)
        → newest_store p k (e ∷ l) ≡ newest_store q k (e ∷ l)
    skips hp hq ih =
        let sq = newest_skip q k e l hq in
        newest_skip p k e l hp ∙ ih (λ a h. here a (sq ∙ h)) ∙ sym sq

    by_count : (v : StoreOf k (access_of e)) → (((a : Access) → newest_store q k l ≡ Some a → p a.by ≡ true)
        → newest_store p k l ≡ newest_store q k l) → (q v.a.by ≡ true) ⊎ (q v.a.by ≡ false)
        → newest_store p k (e ∷ l) ≡ newest_store q k (e ∷ l)
    by_count v ih (inl yes_q) =
        let nq = newest_here q k e l v.a (counted q k (access_of e) v yes_q) in
        newest_here p k e l v.a (counted p k (access_of e) v (here v.a nq)) ∙ sym nq
    by_count v ih (inr no_q) =
        skips (not_counted p k (access_of e) v (false_from_ne_true (p v.a.by) (λ h. true≢false (sym (below v.a.by h) ∙ no_q))))
        (not_counted q k (access_of e) v no_q) ih

    at_entry : (((a : Access) → newest_store q k l ≡ Some a → p a.by ≡ true) → newest_store p k l ≡ newest_store q k l)
        → StoreOf k (access_of e) ⊎ ((q : ℕ → Bool) → stores q k (access_of e) ≡ None) → newest_store p k (e ∷ l) ≡ newest_store q k (e ∷ l)
    at_entry ih (inl v) = by_count v ih (cases_Bool (q v.a.by))
    at_entry ih (inr none) = skips (none p) (none q) ih

-- where an append's newer part has no write that counts, the older part alone has
pub newest_append : (q : ℕ → Bool) (k : Key) (newer older : List Entry) → newest_store q k newer ≡ None
    → newest_store q k (newer ++ older) ≡ newest_store q k older
newest_append q k [] older h = refl
newest_append q k (e ∷ newer) older h = at_entry (newest_append q k newer older) (store_or_not k (access_of e))
  where
    skips : stores q k (access_of e) ≡ None
        → (newest_store q k newer ≡ None → newest_store q k (newer ++ older) ≡ newest_store q k older)
        → newest_store q k (e ∷ newer ++ older) ≡ newest_store q k older
    skips hq ih = newest_skip q k e (newer ++ older) hq ∙ ih (sym (newest_skip q k e newer hq) ∙ h)

    at_entry : (newest_store q k newer ≡ None → newest_store q k (newer ++ older) ≡ newest_store q k older)
        → StoreOf k (access_of e) ⊎ ((q : ℕ → Bool) → stores q k (access_of e) ≡ None)
        → newest_store q k (e ∷ newer ++ older) ≡ newest_store q k older
    at_entry ih (inl v) =
        ⊎_elim (λ yes_q. absurd (none-some v.a (sym h ∙ newest_here q k e newer v.a (counted q k (access_of e) v yes_q))))
        (λ no_q. skips (not_counted q k (access_of e) v no_q) ih) (cases_Bool (q v.a.by))
    at_entry ih (inr none) = skips (none q) ih

one_stores_with : (kind : Kind) → one_stores kind Store ≡ true
one_stores_with Look = refl
one_stores_with Store = refl

-- an access of the key conflicts with a write of it
pub conflicts_store : (x : Option Access) (a : Access) (k : Key) → x ≡ Some a → a.key ≡ k → conflicts x a.by k Store ≡ true
conflicts_store x a k h g = subst (λ y. conflicts y a.by k Store ≡ true) (sym h)
    (subst (λ z. conflicts (Some a) a.by z Store ≡ true) g
    (and_from (nat_eq a.by a.by) (key_eq a.key a.key && one_stores a.kind Store) (eq-eqb a.by a.by refl)
    (and_from (key_eq a.key a.key) (one_stores a.kind Store) (key_eq-refl a.key) (one_stores_with a.kind))))

pub lists_conflicting_append : (newer older : List Entry) (t : ℕ) (k : Key) (kind : Kind) → has_conflicting older t k kind ≡ true
    → has_conflicting (newer ++ older) t k kind ≡ true
lists_conflicting_append [] older t k kind h = h
lists_conflicting_append (e ∷ newer) older t k kind h = or_right (conflicts (access_of e) t k kind)
    (has_conflicting (newer ++ older) t k kind) (lists_conflicting_append newer older t k kind h)

-- a write follows each access of its key
pub access_follows : (past : List Entry) (k : Key) (x : Option Access) (v : StoreOf k x) (t : ℕ)
    → has_conflicting past t k Store ≡ true → FollowsIn past x t v.a.by
access_follows past k x v t h = subst (λ y. FollowsIn past y t v.a.by) (sym v.is)
    (refl, subst₂ (λ z kind. has_conflicting past t z kind ≡ true) (sym v.key) (sym v.kind) h)

-- a write that counts, in the newer part, follows each access of its key in the older part
pub precedes_newest : (q : ℕ → Bool) (k : Key) (newer older : List Entry) (a : Access) (t : ℕ) → newest_store q k newer ≡ Some a
    → has_conflicting older t k Store ≡ true → Precedes (newer ++ older) t a.by
precedes_newest q k [] older a t h g = absurd (none-some a h)
precedes_newest q k (e ∷ newer) older a t h g = at_entry (precedes_newest q k newer older a t) (store_or_not k (access_of e))
  where
    at_entry : (newest_store q k newer ≡ Some a → has_conflicting older t k Store ≡ true → Precedes (newer ++ older) t a.by)
        → StoreOf k (access_of e) ⊎ ((q : ℕ → Bool) → stores q k (access_of e) ≡ None) → Precedes (e ∷ newer ++ older) t a.by
    at_entry ih (inl v) =
        ⊎_elim (λ yes_q. subst (λ b. Precedes (e ∷ newer ++ older) t b.by)
        (same_Some v.a a (sym (newest_here q k e newer v.a (counted q k (access_of e) v yes_q)) ∙ h))
        (inl (access_follows (newer ++ older) k (access_of e) v t (lists_conflicting_append newer older t k Store g))))
        (λ no_q. inr (ih (sym (newest_skip q k e newer (not_counted q k (access_of e) v no_q)) ∙ h) g)) (cases_Bool (q v.a.by))
    at_entry ih (inr none) = inr (ih (sym (newest_skip q k e newer (none q)) ∙ h) g)

-- t has a write of the key, and the newest one that counts is another's: t's precedes it
precedes_after : (q : ℕ → Bool) (k : Key) (l : List Entry) (t : ℕ) (a b : Access) → newest_store q k l ≡ Some a
    → newest_store (λ u. nat_eq u t) k l ≡ Some b → q t ≡ true → a.by ≢ t → Precedes l t a.by
precedes_after q k l t a b h g mine other =
    let own = newest-counts (λ u. nat_eq u t) k l b g in
    let access_list : has_conflicting l t k Look ≡ true = subst (λ u. has_conflicting l u k Look ≡ true) (eqb-true b.by t own.0) own.1 in
    newest-precedes q k l t a.by (λ z. other (sym z)) mine access_list (subst (λ x. IsBy x a.by) (sym h) refl)

-- the value of the newest write that counts is t's own newest write's, or where t has none, the value under a test
-- that agrees but for t
pub own_or : (p q : ℕ → Bool) (k : Key) (l : List Entry) (t : ℕ) (d : Option ℤ) → ((u : ℕ) → p u ≡ true → q u ≡ true) → q t ≡ true
    → ((a : Access) → newest_store q k l ≡ Some a → a.by ≢ t → p a.by ≡ true) → ((a : Access) → newest_store q k l ≡ Some a
    → a.by ≢ t → Precedes l t a.by → ⊥) → value_or (newest_store q k l) d ≡ value_or (newest_store (λ u. nat_eq u t) k l)
    (value_or (newest_store p k l) d)
own_or p q k l t d below mine others first = by_newest (newest_store q k l) refl
  where
    own : Option Access
    own = newest_store (λ u. nat_eq u t) k l

    only : (u : ℕ) → nat_eq u t ≡ true → q u ≡ true
    only u h = subst (λ v. q v ≡ true) (sym (eqb-true u t h)) mine

    not_own : (a : Access) → newest_store q k l ≡ Some a → a.by ≢ t → (x : Option Access) → newest_store (λ u. nat_eq u t) k l ≡ x
        → x ≡ None
    not_own a h n None e = refl
    not_own a h n (Some b) e = absurd (first a h n (precedes_after q k l t a b h e mine n))

    by_newest : (x : Option Access) → newest_store q k l ≡ x → value_or (newest_store q k l) d ≡ value_or
        (newest_store (λ u. nat_eq u t) k l) (value_or (newest_store p k l) d)
    by_newest None h =
        let e_own = newest_agree (λ u. nat_eq u t) q k l only (λ a g. absurd (none-some a (sym h ∙ g))) in
        let e_p = newest_agree p q k l below (λ a g. absurd (none-some a (sym h ∙ g))) in
        rw (e_own, e_p, h)
    by_newest (Some a) h = ⊎_elim (λ mine_too. is_own a h mine_too) (λ n. is_others a h n) (cases_eq a.by t)
      where
        is_own : (a : Access) → newest_store q k l ≡ Some a → a.by ≡ t → value_or (newest_store q k l) d ≡ value_or
            (newest_store (λ u. nat_eq u t) k l) (value_or (newest_store p k l) d)
        is_own a h m =
            let e_own = newest_agree (λ u. nat_eq u t) q k l only (λ b g. eq-eqb b.by t (ap (λ c. c.by) (same_Some b a (sym g ∙ h)) ∙ m)) in
            rw (e_own, h)

        is_others : (a : Access) → newest_store q k l ≡ Some a → a.by ≢ t → value_or (newest_store q k l) d ≡ value_or
            (newest_store (λ u. nat_eq u t) k l) (value_or (newest_store p k l) d)
        is_others a h n =
            let e_own = not_own a h n (newest_store (λ u. nat_eq u t) k l) refl in
            let e_p = newest_agree p q k l below (λ b g. others b g (λ m. n (ap (λ c. c.by) (same_Some a b (sym h ∙ g)) ∙ m))) in
            rw (e_own, e_p)
