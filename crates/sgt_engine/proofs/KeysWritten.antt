-- What the writes of a history say of the committed values: a key of which it has none has its old value.
use Rattle.std.proofs.Common.{◌≡◌, ◌≢◌, ℕ, zero, suc, ◌+◌, ℤ, Bool, true, false, ◌||◌, ◌&&◌, cond, List, [], ◌∷◌, ◌++◌, take, reverse, slice_get, Option, Some, None, IfSome, refl, sym, ap, ◌∙◌, subst, add-one}
use Rattle.std.proofs.lemmas.Bool.{true≢false}
use Rattle.std.proofs.lemmas.Grind.{reverse_onto}
use Rattle.std.proofs.lemmas.Option.{same_Some}
use Rattle.std.specs.BTreeMap.{BTreeMap, get}
use Rattle.std.specs.Option.{is_some, option_or, option_map, option_flatten}
use Rattle.sgt_model.specs.declared.entry.Entry.{Entry}
use Rattle.sgt_model.specs.declared.event.Event.{Event}
use Rattle.sgt_model.specs.declared.event.Event.TheVariants.{Start, Step, Commit, Quit}
use Rattle.sgt_model.specs.declared.event.Event.TheVariants as event
use Rattle.sgt_model.specs.declared.kind.Kind.TheVariants.{Store}
use Rattle.sgt_model.specs.declared.reply.Reply.{Reply}
use Rattle.sgt_model.specs.declared.reply.Reply.TheVariants as reply
use Rattle.sgt_model.specs.Accesses.{Access, access_in, access_of}
use Rattle.sgt_model.specs.Contents.{Key, key_eq, Contents, put_in}
use Rattle.sgt_model.specs.Numbers.{IsValue}
use Rattle.sgt_model.specs.Fates.{committed}
use Rattle.sgt_model.specs.Values.{stores, newest_store, value_or, settled}
use Rattle.sgt_model.proofs.Stores.{key_eq-true}
use Rattle.sgt_model.specs.Databases.{Row, key_cmp, contents_of, IsByKey}
use Rattle.sgt_model.proofs.Merges.{row_more}
use Rattle.sgt_engine.specs.Writes.{reports_write, is_written}

-- the next entry
next_written : (k : Key) (entries : List Entry) (p : ℕ) (r : Reply) → option_map (λ (e : Entry). e.reply) (slice_get entries p) ≡ Some r
    → is_written k (take (suc p) entries) ≡ is_written k (take p entries) || reports_write k r
next_written k [] p r at = absurd (cc)
next_written k (e ∷ entries) zero r at = ap (reports_write k) (same_Some e.reply r at)
next_written k (e ∷ entries) (suc p) r at = ap (λ b. b || reports_write k e.reply) (next_written k entries p r at)
    ∙ swap (is_written k (take p entries)) (reports_write k r) (reports_write k e.reply)
  where
    swap : (a b c : Bool) → ((a || b) || c) ≡ ((a || c) || b)
    swap true b c = refl
    swap false true true = refl
    swap false true false = refl
    swap false false true = refl
    swap false false false = refl

-- the same, as a loop counts
pub written_at : (k : Key) (entries : List Entry) (p : ℕ) (r : Reply) → option_map (λ (e : Entry). e.reply) (slice_get entries p) ≡ Some r
    → is_written k (take (p + 1) entries) ≡ is_written k (take p entries) || reports_write k r
written_at k entries p r at =
    subst (λ n. is_written k (take n entries) ≡ is_written k (take p entries) || reports_write k r) (sym (add-one p))
    (next_written k entries p r at)

none_left : (a b : Option Access) → option_or a b ≡ None → (a ≡ None) × (b ≡ None)
none_left None b none = (refl, none)
none_left (Some a) b none = absurd (cc)

neither : (a b : Bool) → (a || b) ≡ false → (a ≡ false) × (b ≡ false)
neither true b no_one = absurd (true≢false no_one)
neither false b no_one = (refl, no_one)

-- an entry that does not write the key stores nothing there
module _ (counts : ℕ → Bool) (k : Key) where
  unstored : (event : Event) (r : Reply) → reports_write k r ≡ false → stores counts k (access_in event r) ≡ None
  unstored (Step t) (reply.Wrote j v) other =
      ap (λ b. cond (b && counts t) (Some (record { by = t; key = j; kind = Store; value = v })) None) other
  unstored (event.Access t d) (reply.Wrote j v) other =
      ap (λ b. cond (b && counts t) (Some (record { by = t; key = j; kind = Store; value = v })) None) other
  unstored (Start p args) (reply.Wrote j v) other = refl
  unstored (Commit t) (reply.Wrote j v) other = refl
  unstored (Quit t) (reply.Wrote j v) other = refl
  unstored (Step t) (reply.Looked j v) other = refl
  unstored (event.Access t d) (reply.Looked j v) other = refl
  unstored (Start p args) (reply.Looked j v) other = refl
  unstored (Commit t) (reply.Looked j v) other = refl
  unstored (Quit t) (reply.Looked j v) other = refl
  unstored event (reply.Started t) other = refl
  unstored event reply.NoProcedure other = refl
  unstored event reply.BadArgs other = refl
  unstored event reply.Spent other = refl
  unstored event reply.Full other = refl
  unstored event reply.Unknown other = refl
  unstored event (reply.Over fate) other = refl
  unstored event reply.Ended other = refl
  unstored event reply.NotEnded other = refl
  unstored event (reply.Waits t) other = refl
  unstored event (reply.Committed answers) other = refl
  unstored event (reply.Aborted cause fell) other = refl
  unstored event (reply.Refused code fell) other = refl

  -- an older entry that stores nothing there
  none_after : (past : List Entry) (e : Entry) → newest_store counts k past ≡ None → stores counts k (access_of e) ≡ None
      → newest_store counts k (past ++ e ∷ []) ≡ None
  none_after [] e none here = ap (λ o. option_or o None) here
  none_after (x ∷ past) e none here =
      let both = none_left (stores counts k (access_of x)) (newest_store counts k past) none in
      ap (λ o. option_or o (newest_store counts k (past ++ e ∷ []))) both.0 ∙ none_after past e both.1 here

  -- where no entry writes the key, nothing is stored there
  unwritten : (entries : List Entry) → is_written k entries ≡ false → newest_store counts k (reverse entries) ≡ None
  unwritten [] none = refl
  unwritten (e ∷ entries) none =
      let both = neither (is_written k entries) (reports_write k e.reply) none in
      ap (newest_store counts k) (reverse_onto entries e [])
      ∙ none_after (reverse entries) e (unwritten entries both.0) (unstored e.event e.reply both.1)

-- the committed values of the written keys, and else what was opened with: these are the committed values
pub changed : (opening : Contents) (entries : List Entry) (k : Key) (value : Option ℤ) → value ≡ settled opening (reverse entries) k
    → cond (is_written k entries) value (opening k) ≡ settled opening (reverse entries) k
changed opening entries k value same = go (is_written k entries) refl
  where
    go : (b : Bool) → is_written k entries ≡ b → cond b value (opening k) ≡ settled opening (reverse entries) k
    go true e = same
    go false e = ap (λ o. value_or o (opening k)) (sym (unwritten (committed (reverse entries)) k entries e))

-- the map of the values of the written keys, if this many were written before

-- a reply that is no write
pub no_write : (k : Key) (r : Reply) → ((j : Key) (v : Option ℤ) → r ≡ reply.Wrote j v → ⊥) → reports_write k r ≡ false
no_write k (reply.Wrote j v) other = absurd (other j v refl)
no_write k (reply.Looked j v) other = refl
no_write k (reply.Started t) other = refl
no_write k reply.NoProcedure other = refl
no_write k reply.BadArgs other = refl
no_write k reply.Spent other = refl
no_write k reply.Full other = refl
no_write k reply.Unknown other = refl
no_write k (reply.Over fate) other = refl
no_write k reply.Ended other = refl
no_write k reply.NotEnded other = refl
no_write k (reply.Waits t) other = refl
no_write k (reply.Committed answers) other = refl
no_write k (reply.Aborted cause fell) other = refl
no_write k (reply.Refused code fell) other = refl

-- a value that is put is in range, and so is none
pub range_put : (b : Bool) (v : Option ℤ) (o : Option (Option ℤ)) → IfSome v IsValue → IfSome (option_flatten o) IsValue
    → IfSome (option_flatten (cond b (Some v) o)) IsValue
range_put true v o here rest = here
range_put false v o here rest = rest

-- where no key is put without a value, each has one
pub value_put : (b : Bool) (v : Option ℤ) (o : Option (Option ℤ)) → is_some v ≡ true → o ≢ Some None → cond b (Some v) o ≢ Some None
value_put true None o some rest = absurd (true≢false (sym some))
value_put true (Some v) o some rest = λ is. absurd (cc)
value_put false v o some rest = rest

-- with an entry that writes nothing
pub value_kept : (written : Bool) (value : Option (Option ℤ)) → cond written value None ≡ cond (written || false) value None
value_kept true value = refl
value_kept false value = refl

-- with one that writes a key
pub value_more : (k key : Key) (written : Bool) (values : Contents)
    → cond (key_eq key k) (Some (values key)) (cond written (Some (values k)) None) ≡ cond (written || key_eq key k) (Some (values k)) None
value_more k key written values = go written (key_eq key k) refl
  where
    go : (a b : Bool) → key_eq key k ≡ b
        → cond b (Some (values key)) (cond a (Some (values k)) None) ≡ cond (a || b) (Some (values k)) None
    go true true e = ap (λ j. Some (values j)) (key_eq-true key k e)
    go true false e = refl
    go false true e = ap (λ j. Some (values j)) (key_eq-true key k e)
    go false false e = refl

-- ---- the rows of a database, with the values of the written keys

-- where each of these has one, it comes before what the database had
pub newer_first : (values opening : Contents) (k : Key) (written : Bool) (o : Option (Option ℤ)) → o ≡ cond written (Some (values k)) None
    → o ≢ Some None → option_or (option_flatten o) (opening k) ≡ cond written (values k) (opening k)
newer_first values opening k written o is some =
    ap (λ x. option_or (option_flatten x) (opening k)) is ∙ go written (values k) refl refl
  where
    go : (b : Bool) (v : Option ℤ) → written ≡ b → values k ≡ v
        → option_or (option_flatten (cond b (Some v) None)) (opening k) ≡ cond b v (opening k)
    go true None w n = absurd (some (is ∙ (ap (λ b. cond b (Some (values k)) None) w ∙ ap Some n)))
    go true (Some v) w n = refl
    go false v w n = refl

-- a row more, whose key was not written
module _ (m : BTreeMap Key (Option ℤ)) (rows : List Row) (i : ℕ) (r : Row) (ordered : IsByKey rows) (at : slice_get rows i ≡ Some r) where
  pub row_kept : (k : Key) → is_some (get key_cmp m r.0) ≡ false
      → put_in (λ j. cond (is_some (get key_cmp m j)) None (contents_of (take i rows) j)) r.0 r.1 k
      ≡ cond (is_some (get key_cmp m k)) None (contents_of (take (i + 1) rows) k)
  row_kept k not_there = go (key_eq r.0 k) refl ∙ ap (λ o. cond (is_some (get key_cmp m k)) None o) (sym (row_more rows i r ordered at k))
    where
      go : (b : Bool) → key_eq r.0 k ≡ b
          → cond b (Some r.1) (cond (is_some (get key_cmp m k)) None (contents_of (take i rows) k))
          ≡ cond (is_some (get key_cmp m k)) None (cond b (Some r.1) (contents_of (take i rows) k))
      go true e = ap (λ c. cond c None (Some r.1)) (sym (ap (λ j. is_some (get key_cmp m j)) (sym (key_eq-true r.0 k e)) ∙ not_there))
      go false e = refl

  -- one whose key was
  pub row_left : (k : Key) → is_some (get key_cmp m r.0) ≡ true
      → cond (is_some (get key_cmp m k)) None (contents_of (take i rows) k)
      ≡ cond (is_some (get key_cmp m k)) None (contents_of (take (i + 1) rows) k)
  row_left k there = go (key_eq r.0 k) refl ∙ ap (λ o. cond (is_some (get key_cmp m k)) None o) (sym (row_more rows i r ordered at k))
    where
      go : (b : Bool) → key_eq r.0 k ≡ b
          → cond (is_some (get key_cmp m k)) None (contents_of (take i rows) k)
          ≡ cond (is_some (get key_cmp m k)) None (cond b (Some r.1) (contents_of (take i rows) k))
      go true e =
          let here : is_some (get key_cmp m k) ≡ true = ap (λ j. is_some (get key_cmp m j)) (sym (key_eq-true r.0 k e)) ∙ there in
          ap (λ c. cond c None (contents_of (take i rows) k)) here ∙ sym (ap (λ c. cond c None (Some r.1)) here)
      go false e = refl
