-- That every legal history goes on, and that committed contents are rows by key.
use Rattle.std.proofs.Common.{◌≡◌, ℕ, zero, suc, ℤ, Bool, true, false, cond, List, [], ◌∷◌, ◌++◌, Option, Some, None, refl, sym, ap, ◌∙◌, subst, slice_get, slice_set, insert, append_assoc}
use Rattle.std.specs.Prelude.{map}
use Rattle.std.specs.Option.{option_or}
use Rattle.std.proofs.lemmas.List.{reverse-append}
use Rattle.sgt_model.specs.declared.entry.Entry.{Entry}
use Rattle.sgt_model.specs.Contents.{Key, key_eq, Contents, set_in, put_in}
use Rattle.sgt_model.specs.Databases.{Row, contents_of, key_lt, IsRowIndex, IsByKey, IsBelow}
use Rattle.sgt_model.specs.Accesses.{Access, is_store, access_of}
use Rattle.sgt_model.specs.Fates.{committed}
use Rattle.sgt_model.specs.Values.{stores, newest_store, value_or}
use Rattle.sgt_model.specs.Legality.{Legal}
use Rattle.sgt_model.specs.Histories.{events_of}
use Rattle.sgt_model.specs.Continuations.{HistoriesGoOn, SettledAreRows}
use Rattle.sgt_model.proofs.Rows.{set_contents, insert_contents, set_by_key, insert_by_key}
use Rattle.sgt_model.proofs.Stores.{key_eq-true}
use Rattle.std.proofs.lemmas.Option.{same_Some}
use Rattle.sgt_model.proofs.SomeReply.{some_reply_is_legal}

-- histories go on

-- the events of a history with an entry in front of the oldest
events_of-older : (later : List Entry) (e : Entry) → events_of (later ++ e ∷ []) ≡ e.event ∷ events_of later
events_of-older later e = ap (map (λ (x : Entry). x.event)) (reverse-append later (e ∷ []))

pub histories_go_on : HistoriesGoOn
histories_go_on s past [] legal = ([], legal, refl)
histories_go_on s past (event ∷ events) legal =
    let some = some_reply_is_legal s past event in
    let e : Entry = record { event = event; reply = some.0 } in
    let rest = histories_go_on s (e ∷ past) events (legal, some.1) in (
      rest.0 ++ e ∷ [],
      subst (Legal s) (sym (append_assoc rest.0 (e ∷ []) past)) rest.1,
      events_of-older rest.0 e ∙ ap (λ es. event ∷ es) rest.2,
    )

-- rows

-- rows by key with these contents
abbrev HasRows : Contents → Type 0
HasRows m = (rows : List Row) × IsByKey rows × ((k : Key) → contents_of rows k ≡ m k)

-- each key has its index
index_of : (k : Key) (rows : List Row) → (n : ℕ) × IsRowIndex k rows n
index_of k [] = (zero, tt)
index_of k (r ∷ rows) = both (index_of k rows) (key_lt r.0 k) refl where
  both : ((n : ℕ) × IsRowIndex k rows n) → (t : Bool) → key_lt r.0 k ≡ t → (n : ℕ) × IsRowIndex k (r ∷ rows) n
  both (n, rest) true e = (suc n, (e, rest))
  both rest false e = (zero, e)

-- a value written to rows
put_rows : (k : Key) (v : ℤ) (rows : List Row) → IsByKey rows → HasRows (put_in (contents_of rows) k v)
put_rows k v rows rising = at (slice_get rows n) refl where
  n : ℕ
  n = (index_of k rows).0

  there : IsRowIndex k rows n
  there = (index_of k rows).1

  inserted : ((r : Row) → slice_get rows n ≡ Some r → key_eq r.0 k ≡ false) → HasRows (put_in (contents_of rows) k v)
  inserted new = (insert rows n (k, v), insert_by_key k v rows n there new rising, insert_contents k v rows n there)

  row : (r : Row) → slice_get rows n ≡ Some r → (t : Bool) → key_eq r.0 k ≡ t → HasRows (put_in (contents_of rows) k v)
  row r is true e = (
    slice_set rows n (k, v),
    set_by_key k v rows n r is (key_eq-true r.0 k e) rising,
    set_contents k v rows n r there is (key_eq-true r.0 k e),
  )
  row r is false e = inserted (λ q at. subst (λ (o : Option Row). o ≡ Some q → key_eq q.0 k ≡ false) (sym is)
      (λ same. subst (λ (x : Row). key_eq x.0 k ≡ false) (same_row same) e) at) where
        same_row : {q : Row} → Some r ≡ Some q → r ≡ q
        same_row h = same_Some _ _ h

  at : (o : Option Row) → slice_get rows n ≡ o → HasRows (put_in (contents_of rows) k v)
  at None is = inserted (λ q h. absurd (cc (sym is ∙ h)))
  at (Some r) is = row r is (key_eq r.0 k) refl

-- rows without a key's
abbrev removed : Key → List Row → List Row
removed k [] = []
removed k (r ∷ rows) = cond (key_eq r.0 k) (removed k rows) (r ∷ removed k rows)

below_removed : (i k : Key) (rows : List Row) → IsBelow i rows → IsBelow i (removed k rows)
below_removed i k [] below = tt
below_removed i k (r ∷ rows) below = both (key_eq r.0 k) (below_removed i k rows below.1) where
  both : (t : Bool) → IsBelow i (removed k rows) → IsBelow i (cond t (removed k rows) (r ∷ removed k rows))
  both true rest = rest
  both false rest = (below.0, rest)

by_key_removed : (k : Key) (rows : List Row) → IsByKey rows → IsByKey (removed k rows)
by_key_removed k [] rising = tt
by_key_removed k (r ∷ rows) rising = both (key_eq r.0 k) (by_key_removed k rows rising.1) where
  both : (t : Bool) → IsByKey (removed k rows) → IsByKey (cond t (removed k rows) (r ∷ removed k rows))
  both true rest = rest
  both false rest = (below_removed r.0 k rows rising.0, rest)

either : (t : Bool) (x : Option ℤ) → x ≡ cond t x x
either true x = refl
either false x = refl

contents_removed : (k : Key) (rows : List Row) (j : Key) → contents_of (removed k rows) j ≡ set_in (contents_of rows) k None j
contents_removed k [] j = either (key_eq k j) None
contents_removed k (r ∷ rows) j = both (key_eq r.0 k) (key_eq k j) (key_eq r.0 j) refl refl refl (contents_removed k rows j) where
  both : (a b c : Bool) → key_eq r.0 k ≡ a → key_eq k j ≡ b → key_eq r.0 j ≡ c → contents_of (removed k rows) j
      ≡ cond (key_eq k j) None (contents_of rows j)
      → contents_of (cond a (removed k rows) (r ∷ removed k rows)) j
      ≡ cond (key_eq k j) None (cond (key_eq r.0 j) (Some r.1) (contents_of rows j))
  both true true c ea eb ec rest = rest ∙ (ap (λ t. cond t None (contents_of rows j)) eb
      ∙ sym (ap (λ t. cond t None (cond (key_eq r.0 j) (Some r.1) (contents_of rows j))) eb))
  both true false c ea eb ec rest =
      let other : key_eq r.0 j ≡ false = ap (λ x. key_eq x j) (key_eq-true r.0 k ea) ∙ eb in
      rest ∙ ap (λ t. cond (key_eq k j) None (cond t (Some r.1) (contents_of rows j))) (sym other)
  both false true true ea eb ec rest = absurd (cc (sym ec ∙ (sym (ap (λ x. key_eq r.0 x) (key_eq-true k j eb)) ∙ ea)))
  both false false true ea eb ec rest = rw (ec, eb) refl
  both false b false ea eb ec rest = rw ec rest

-- a key removed from rows
remove_rows : (k : Key) (rows : List Row) → IsByKey rows → HasRows (set_in (contents_of rows) k None)
remove_rows k rows rising = (removed k rows, by_key_removed k rows rising, contents_removed k rows)

-- rows with a key's value set
set_rows : (k : Key) (v : Option ℤ) (rows : List Row) → IsByKey rows → HasRows (set_in (contents_of rows) k v)
set_rows k None rows rising = remove_rows k rows rising
set_rows k (Some v) rows rising = put_rows k v rows rising

-- the contents of any rows are those of rows by key
by_key : (rows : List Row) → HasRows (contents_of rows)
by_key [] = ([], tt, λ k. refl)
by_key (r ∷ rows) = on (by_key rows) where
  on : HasRows (contents_of rows) → HasRows (contents_of (r ∷ rows))
  on (before, rising, same) =
      let put = put_rows r.0 r.1 before rising in
      (put.0, put.1, λ k. put.2 k ∙ ap (λ m. cond (key_eq r.0 k) (Some r.1) m) (same k))

-- what those that count leave, over rows
abbrev Left : (ℕ → Bool) → List Row → List Entry → Contents
Left counts rows past k = value_or (newest_store counts k past) (contents_of rows k)

-- an access more, where the accesses before it have left rows
left-more : (counts : ℕ → Bool) (rows : List Row) (past : List Entry) (e : Entry) (o : Option Access) → access_of e ≡ o
    → HasRows (Left counts rows past) → HasRows (Left counts rows (e ∷ past))
left-more counts rows past e None is (before, rising, same) = (
  before,
  rising,
  λ k. same k ∙ ap (λ (x : Option Access). value_or (option_or (stores counts k x) (newest_store counts k past))
      (contents_of rows k)) (sym is),
)
left-more counts rows past e (Some a) is (before, rising, same) = by_kind (is_store a.kind) refl (counts a.by) refl where
  next : (k : Key) → Option ℤ
  next k = value_or (option_or (stores counts k (Some a)) (newest_store counts k past)) (contents_of rows k)

  seen : (k : Key) → next k ≡ Left counts rows (e ∷ past) k
  seen k = ap (λ (x : Option Access). value_or (option_or (stores counts k x) (newest_store counts k past)) (contents_of rows k))
      (sym is)

  as_before : ((k : Key) → stores counts k (Some a) ≡ None) → HasRows (Left counts rows (e ∷ past))
  as_before none = (
    before,
    rising,
    λ k. same k ∙ ap (λ (x : Option Access). value_or (option_or x (newest_store counts k past))
        (contents_of rows k)) (sym (none k)) ∙ seen k,
  )

  stored : is_store a.kind ≡ true → counts a.by ≡ true → HasRows (Left counts rows (e ∷ past))
  stored kind by =
      let put = set_rows a.key a.value before rising in
      (put.0, put.1, λ k. put.2 k ∙ at k (key_eq a.key k) refl ∙ seen k) where
        at : (k : Key) (t : Bool) → key_eq a.key k ≡ t → set_in (contents_of before) a.key a.value k ≡ next k
        at k true h = rw (h, kind, by) refl
        at k false h = rw (h, kind) (same k)

  by_kind : (t : Bool) → is_store a.kind ≡ t → (c : Bool) → counts a.by ≡ c → HasRows (Left counts rows (e ∷ past))
  by_kind true kind true by = stored kind by
  by_kind false kind c by = as_before (λ k. rw kind refl)
  by_kind true kind false by = as_before (λ k. none k (key_eq a.key k) refl) where
    none : (k : Key) (t : Bool) → key_eq a.key k ≡ t → stores counts k (Some a) ≡ None
    none k true h = rw (kind, h, by) refl
    none k false h = rw (kind, h) refl

left-rows : (counts : ℕ → Bool) (rows : List Row) (past : List Entry) → HasRows (Left counts rows past)
left-rows counts rows [] = by_key rows
left-rows counts rows (e ∷ past) = left-more counts rows past e (access_of e) refl (left-rows counts rows past)

pub settled_are_rows : SettledAreRows
settled_are_rows rows past = left-rows (committed past) rows past
