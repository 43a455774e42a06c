-- The live writes, read one by one, and what remains of them.
use Rattle.std.proofs.Common.{◌≡◌, ◌≢◌, ℕ, ◌+◌, ◌<◌, ℤ, Bool, true, false, cond, not, ◌&&◌, ◌||◌, nat_eq, List, [], ◌∷◌, ◌++◌, length, take, get_or, Option, Some, refl, sym, ap, ◌∙◌, subst, add-one}
use Rattle.std.proofs.lemmas.Bool.{true≢false, eq-eqb, ne_eqb, eqb-true}
use Rattle.std.proofs.lemmas.List.Elements.{All-filter, All-push}
use Rattle.std.proofs.Math.Seq.{take-suc}
use Rattle.std.specs.List.{filter}
use Rattle.std.specs.Option.{unwrap_or}
use Rattle.sgt_model.specs.Contents.{Key, key_eq}
use Rattle.sgt_model.specs.Chains.{chain_without, write_last, value_in, writes_in}
use Rattle.sgt_model.proofs.Stores.{key_eq-true}
use Rattle.sgt_records.specs.declared.live_write.LiveWrite.{LiveWrite}
use Rattle.sgt_records.specs.LiveWrites.{is_live, IndicesAgree}
use Rattle.sgt_records.proofs.ChainIndices.{left_whole, no_value}

-- on booleans
or_false : (b : Bool) → (b || false) ≡ b
or_false true = refl
or_false false = refl

or_assoc : (a b c : Bool) → ((a || b) || c) ≡ (a || (b || c))
or_assoc true b c = refl
or_assoc false b c = refl

-- on one chain

-- which transactions write in what remains
pub writers_left : (t u : ℕ) (c : List (ℕ × Option ℤ)) → writes_in u (chain_without t c) ≡ (not (nat_eq u t) && writes_in u c)
writers_left t u [] = go (nat_eq u t)
  where
    go : (b : Bool) → false ≡ (not b && false)
    go true = refl
    go false = refl
writers_left t u (w ∷ c) = go (nat_eq w.0 t) refl (nat_eq w.0 u) refl (nat_eq u t) refl (writers_left t u c)
  where
    go : (a : Bool) → nat_eq w.0 t ≡ a → (b : Bool) → nat_eq w.0 u ≡ b → (d : Bool) → nat_eq u t ≡ d
        → writes_in u (chain_without t c) ≡ (not d && writes_in u c)
        → writes_in u (cond (not a) (w ∷ chain_without t c) (chain_without t c)) ≡ (not d && (b || writes_in u c))
    go true e true f true g h = h
    go true e true f false g h = absurd (true≢false (sym (subst (λ x. nat_eq x t ≡ true) (eqb-true w.0 u f) e) ∙ g))
    go true e false f d g h = h
    go false e true f true g h = absurd (true≢false (sym (subst (λ x. nat_eq x t ≡ true) (sym (eqb-true w.0 u f)) g) ∙ e))
    go false e true f false g h = rw f refl
    go false e false f d g h = rw f h

-- no transaction writes in a chain without them
pub not_left : (t : ℕ) (c : List (ℕ × Option ℤ)) → writes_in t (chain_without t c) ≡ false
not_left t c = writers_left t t c ∙ ap (λ b. not b && writes_in t c) (eq-eqb t t refl)

-- who writes in a chain of two parts
writers_joined : (u : ℕ) (c d : List (ℕ × Option ℤ)) → writes_in u (c ++ d) ≡ (writes_in u c || writes_in u d)
writers_joined u [] d = refl
writers_joined u (w ∷ c) d = ap (λ b. nat_eq w.0 u || b) (writers_joined u c d)
    ∙ sym (or_assoc (nat_eq w.0 u) (writes_in u c) (writes_in u d))

-- who writes in a chain after a write
pub writers_after : (t u : ℕ) (v : Option ℤ) (c : List (ℕ × Option ℤ)) → writes_in u (write_last t v c) ≡ (writes_in u c || nat_eq t u)
writers_after t u v c = writers_joined u (chain_without t c) ((t, v) ∷ [])
    ∙ (ap (λ b. b || (nat_eq t u || false)) (writers_left t u c) ∙ go (nat_eq t u) refl (nat_eq u t) refl (writes_in u c))
  where
    go : (a : Bool) → nat_eq t u ≡ a → (b : Bool) → nat_eq u t ≡ b → (d : Bool) → ((not b && d) || (a || false)) ≡ (d || a)
    go true e true f true = refl
    go true e true f false = refl
    go true e false f true = refl
    go true e false f false = refl
    go false e true f d = absurd (true≢false (sym (eq-eqb t u (sym (eqb-true u t f))) ∙ e))
    go false e false f true = refl
    go false e false f false = refl

-- on the live writes

-- with one more
pub live_more : (t : ℕ) (k : Key) (writes : List LiveWrite) (w : LiveWrite)
    → is_live t k (writes ++ w ∷ []) ≡ (is_live t k writes || (nat_eq w.by t && key_eq w.key k))
live_more t k [] w = or_false (nat_eq w.by t && key_eq w.key k)
live_more t k (x ∷ writes) w = ap (λ b. (nat_eq x.by t && key_eq x.key k) || b) (live_more t k writes w)
    ∙ sym (or_assoc (nat_eq x.by t && key_eq x.key k) (is_live t k writes) (nat_eq w.by t && key_eq w.key k))

-- those of all but one
abbrev pub not_by : ℕ → LiveWrite → Bool
not_by t w = not (nat_eq w.by t)

-- without t's
pub live_left : (t u : ℕ) (k : Key) (writes : List LiveWrite)
    → is_live u k (filter (not_by t) writes) ≡ (not (nat_eq u t) && is_live u k writes)
live_left t u k [] = go (nat_eq u t)
  where
    go : (b : Bool) → false ≡ (not b && false)
    go true = refl
    go false = refl
live_left t u k (w ∷ writes) = go (nat_eq w.by t) refl (nat_eq w.by u) refl (nat_eq u t) refl (live_left t u k writes)
  where
    rest : List LiveWrite
    rest = filter (not_by t) writes

    go : (a : Bool) → nat_eq w.by t ≡ a → (b : Bool) → nat_eq w.by u ≡ b → (d : Bool) → nat_eq u t ≡ d
        → is_live u k rest ≡ (not d && is_live u k writes)
        → is_live u k (cond (not a) (w ∷ rest) rest) ≡ (not d && ((b && key_eq w.key k) || is_live u k writes))
    go true e true f true g h = h
    go true e true f false g h = absurd (true≢false (sym (subst (λ x. nat_eq x t ≡ true) (eqb-true w.by u f) e) ∙ g))
    go true e false f d g h = h
    go false e true f true g h = absurd (true≢false (sym (subst (λ x. nat_eq x t ≡ true) (sym (eqb-true w.by u f)) g) ∙ e))
    go false e true f false g h = rw f (ap (λ b. key_eq w.key k || b) h)
    go false e false f d g h = rw f h

module _ (t : ℕ) (writes : List LiveWrite) (i : ℕ) (w : LiveWrite) (short : i < length writes) (is : w ≡ get_or writes i w) where
  -- the first ones with one more
  live_next : (k : Key) → is_live t k (take (i + 1) writes) ≡ (is_live t k (take i writes) || (nat_eq w.by t && key_eq w.key k))
  live_next k =
      ap (is_live t k) (ap (λ n. take n writes) (add-one i) ∙ (take-suc writes i w short ∙ ap (λ x. take i writes ++ x ∷ []) (sym is)))
      ∙ live_more t k (take i writes) w

  -- another's is not t's
  pub live_other : w.by ≢ t → (k : Key) → is_live t k (take (i + 1) writes) ≡ is_live t k (take i writes)
  live_other other k =
      live_next k ∙ (ap (λ b. is_live t k (take i writes) || (b && key_eq w.key k)) (ne_eqb w.by t other)
      ∙ or_false (is_live t k (take i writes)))

  live_own : w.by ≡ t → (k : Key) → is_live t k (take (i + 1) writes) ≡ (is_live t k (take i writes) || key_eq w.key k)
  live_own own k = live_next k ∙ ap (λ b. is_live t k (take i writes) || (b && key_eq w.key k)) (eq-eqb w.by t own)

  -- t's own leaves its key's chain without it
  pub undo_more : w.by ≡ t → (k : Key) (opening before after : List (ℕ × Option ℤ))
      → after ≡ cond (key_eq w.key k) (chain_without t before) before
      → before ≡ cond (is_live t k (take i writes)) (chain_without t opening) opening
      → after ≡ cond (is_live t k (take (i + 1) writes)) (chain_without t opening) opening
  undo_more own k opening before after one so_far = one
      ∙ (ap (λ c. cond (key_eq w.key k) (chain_without t c) c) so_far
      ∙ (go (key_eq w.key k) (is_live t k (take i writes)) ∙ sym (ap (λ b. cond b (chain_without t opening) opening) (live_own own k))))
    where
      go : (e d : Bool) → cond e (chain_without t (cond d (chain_without t opening) opening))
          (cond d (chain_without t opening) opening) ≡ cond (d || e)
          (chain_without t opening) opening
      go true true = left_whole t (chain_without t opening) (not_left t opening)
      go true false = refl
      go false true = refl
      go false false = refl

-- on what an end leaves

-- who doesn't write in the chain leaves it as it is
pub undone : (t : ℕ) (b : Bool) (opening after : List (ℕ × Option ℤ)) → b ≡ writes_in t opening
    → after ≡ cond b (chain_without t opening) opening → after ≡ chain_without t opening
undone t true opening after is left = left
undone t false opening after is left = left ∙ sym (left_whole t opening (sym is))

-- and has no value to commit
pub settled_once : (t : ℕ) (b : Bool) (opening : List (ℕ × Option ℤ)) (committed after : Option ℤ) → b ≡ writes_in t opening
    → after ≡ cond b (unwrap_or (value_in t opening) committed) committed → after ≡ unwrap_or (value_in t opening) committed
settled_once t true opening committed after is left = left
settled_once t false opening committed after is left = left ∙ sym (ap (λ o. unwrap_or o committed) (no_value t opening (sym is)))

-- on the whole list

-- once t's are gone from the list and from the chain, they say the same
pub live_ended : (t u : ℕ) (k : Key) (writes left : List LiveWrite) (opening after : List (ℕ × Option ℤ))
    → is_live u k writes ≡ writes_in u opening → left ≡ filter (not_by t) writes → after ≡ chain_without t opening
    → is_live u k left ≡ writes_in u after
live_ended t u k writes left opening after are gone out = ap (is_live u k) gone
    ∙ (live_left t u k writes ∙ (ap (λ b. not (nat_eq u t) && b) are ∙ (sym (writers_left t u opening) ∙ sym (ap (writes_in u) out))))

-- and so with a new writer
pub live_added : (t u : ℕ) (key k : Key) (index : ℕ) (v : Option ℤ) (writes more : List LiveWrite) (opening after : List (ℕ × Option ℤ))
    → is_live u k writes ≡ writes_in u opening → more ≡ writes ++ record { by = t; key = key; index = index } ∷ []
    → after ≡ cond (key_eq key k) (write_last t v opening) opening → is_live u k more ≡ writes_in u after
live_added t u key k index v writes more opening after are added put = ap (is_live u k) added
    ∙ (live_more u k writes (record { by = t; key = key; index = index })
    ∙ (ap (λ b. b || (nat_eq t u && key_eq key k)) are
    ∙ (go (key_eq key k) (nat_eq t u) (writers_after t u v opening) ∙ sym (ap (writes_in u) put))))
  where
    go : (e b : Bool) → writes_in u (write_last t v opening) ≡ (writes_in u opening || b)
        → (writes_in u opening || (b && e)) ≡ writes_in u (cond e (write_last t v opening) opening)
    go true true h = sym h
    go true false h = sym h
    go false true h = or_false (writes_in u opening)
    go false false h = or_false (writes_in u opening)

-- and with one who had written the key
pub live_again : (t u : ℕ) (key k : Key) (v : Option ℤ) (writes : List LiveWrite) (chains : Key → List (ℕ × Option ℤ))
    (after : List (ℕ × Option ℤ)) → writes_in t (chains key) ≡ true → is_live u k writes ≡ writes_in u (chains k)
    → after ≡ cond (key_eq key k) (write_last t v (chains k)) (chains k) → is_live u k writes ≡ writes_in u after
live_again t u key k v writes chains after again are put = are
    ∙ (go (key_eq key k) refl (nat_eq t u) refl (writers_after t u v (chains k)) ∙ sym (ap (writes_in u) put))
  where
    or_true : (b : Bool) → b ≡ true → b ≡ (b || true)
    or_true true h = refl
    or_true false h = h

    go : (e : Bool) → key_eq key k ≡ e → (b : Bool) → nat_eq t u ≡ b
        → writes_in u (write_last t v (chains k)) ≡ (writes_in u (chains k) || b)
        → writes_in u (chains k) ≡ writes_in u (cond e (write_last t v (chains k)) (chains k))
    go true e true f h = or_true (writes_in u (chains k))
        (subst (λ x. writes_in x (chains k) ≡ true) (eqb-true t u f)
        (subst (λ j. writes_in t (chains j) ≡ true) (key_eq-true key k e) again)) ∙ sym h
    go true e false f h = sym (h ∙ or_false (writes_in u (chains k)))
    go false e b f h = refl

-- on the indices that they have

-- each has that of its key
pub agree_at : (indices : Key → Option ℕ) (writes : List LiveWrite) (i : ℕ) (w : LiveWrite) → i < length writes → w ≡ get_or writes i w
    → IndicesAgree indices writes → indices w.key ≡ Some w.index
agree_at indices writes i w short is all = subst (λ x. indices x.key ≡ Some x.index) (sym is) (all i w short)

-- also where there are more
pub agree_on : (indices more : Key → Option ℕ) (writes same : List LiveWrite)
    → ((k : Key) (p : ℕ) → indices k ≡ Some p → more k ≡ Some p) → same ≡ writes → IndicesAgree indices writes → IndicesAgree more same
agree_on indices more writes same stay is all = subst (IndicesAgree more) (sym is) (λ i d short. stay _ _ (all i d short))

-- with one more
pub agree_more : (indices : Key → Option ℕ) (writes more : List LiveWrite) (w : LiveWrite) → more ≡ writes ++ w ∷ []
    → indices w.key ≡ Some w.index → IndicesAgree indices writes → IndicesAgree indices more
agree_more indices writes more w is here all = subst (IndicesAgree indices) (sym is)
    (All-push (λ (x : LiveWrite). indices x.key ≡ Some x.index) writes w all here)

-- and without t's
pub agree_left : (indices : Key → Option ℕ) (t : ℕ) (writes left : List LiveWrite) → left ≡ filter (not_by t) writes
    → IndicesAgree indices writes → IndicesAgree indices left
agree_left indices t writes left is all = subst (IndicesAgree indices) (sym is)
    (All-filter (not_by t) (λ (x : LiveWrite). indices x.key ≡ Some x.index) writes all)
