use Rattle.std.proofs.Common.{rules, ◌≡◌, ℕ, Bool, true, false, cond, ◌⊎◌, inl, inr, Option, Some, None, [], ◌∷◌, ◌++◌, length, slice_get, ap, refl, sym, subst, subst₂, ◌∙◌}
use Rattle.std.specs.BTreeMap.{get, Updates}
use Rattle.std.specs.Option.{option_and_then}
use Rattle.sgt_model.specs.Contents.{Key, key_eq}
use Rattle.sgt_model.specs.Databases.{key_cmp}
use Rattle.sgt_model.proofs.Stores.{key_eq-true}
use Rattle.sgt_records.specs.declared.record.Record.{Record}
use Rattle.sgt_records.specs.declared.written.Written.TheVariants.{Nothing}
use Rattle.sgt_records.specs.Indices.{AreIndices, AreKeys}
use Rattle.sgt_records.proofs.TableIndices.{added_indices, added_keys, added_returned, indices_stay, others_returned, on_ok, index_back, indices_back, keys_back}
use Rattle.sgt_records.proofs.table.Table.find_or_add.Goals.{Else-is_err, After-push_reserved-2}
use Rattle.sgt_records.proofs.table.Table.find_or_add.Goals as goal

-- where the key had a record

-- its index was the one that the map returned
earlier : (c : Else-is_err) → get key_cmp c.args.self.now.indices c.args.key ≡ Some c.in-Some.earlier
earlier c = sym c.in_ok-earlier.ensures.old ∙ c.in-Some.is

-- it is put back
back : (c : Else-is_err) → Updates key_cmp c.insert.new.self c.insert-in-Some.new.self c.args.key (Some c.in-Some.earlier)
back c = on_ok c.insert-in-Some.result (sym c.is_err.ensures.value ∙ c.if-is_err.false) c.insert-in-Some.ensures.updates

same : (c : Else-is_err) (k : Key) → get key_cmp c.insert-in-Some.new.self k ≡ get key_cmp c.args.self.now.indices k
same c = index_back c.args.self.now.indices c.insert.new.self c.insert-in-Some.new.self c.args.key c.in-Some.earlier _ (earlier c)
    c.in_ok-earlier.ensures.updates (back c)

pub invariant_of-self-in-Some : goal.invariant_of-self-in-Some
invariant_of-self-in-Some c =
    let table = c.args.self.now in
    record {
      are_indices = subst (AreIndices c.insert-in-Some.new.self) (sym c.reserve.ensures.items)
          (indices_back table.indices c.insert.new.self c.insert-in-Some.new.self c.args.key c.in-Some.earlier _ (earlier c)
          c.in_ok-earlier.ensures.updates (back c) table.records.items table.are_indices);
      are_keys = subst₂ (λ ks rs. AreKeys c.insert-in-Some.new.self ks (length rs)) (sym c.reserve-2.ensures.items)
          (sym c.reserve.ensures.items)
          (keys_back table.indices c.insert.new.self c.insert-in-Some.new.self c.args.key c.in-Some.earlier _ (earlier c)
          c.in_ok-earlier.ensures.updates (back c) table.keys.items (length table.records.items) table.are_keys);
    }

pub returns-in-Some-clause-records : goal.returns-in-Some-clause-records
returns-in-Some-clause-records c k =
    let at = (goal.at.returns-in-Some-clause-records c).Else-is_err in
    inl (ap (λ l. option_and_then (slice_get l) (get key_cmp c.insert-in-Some.new.self k)) c.reserve.ensures.items
    ∙ ap (option_and_then (slice_get c.args.self.now.records.items)) (same at k))

pub returns-in-Some-clause-stay : goal.returns-in-Some-clause-stay
returns-in-Some-clause-stay c k p is = same (goal.at.returns-in-Some-clause-stay c).Else-is_err k ∙ is

pub returns-in-Some-clause-others : goal.returns-in-Some-clause-others
returns-in-Some-clause-others c k other = same (goal.at.returns-in-Some-clause-others c).Else-is_err k

-- where it had none

absent : (c : After-push_reserved-2) → get key_cmp c.args.self.now.indices c.args.key ≡ None
absent c = go c.in_ok-earlier.field-0 refl
  where
    go : (o : Option ℕ) → c.in_ok-earlier.field-0 ≡ o → get key_cmp c.args.self.now.indices c.args.key ≡ None
    go None is = sym c.in_ok-earlier.ensures.old ∙ is
    go (Some p) is = absurd (c.in_default.not-Some p is)

-- the index of the new record is its key's
index_returned : (c : After-push_reserved-2)
    → Updates key_cmp c.args.self.now.indices c.insert.new.self c.args.key (Some (length c.args.self.now.records.items))
index_returned c =
    let index : c.len-index.result ≡ length c.args.self.now.records.items = search rules in
    subst (λ n. Updates key_cmp c.args.self.now.indices c.insert.new.self c.args.key (Some n)) index c.in_ok-earlier.ensures.updates

abbrev given : Record
given = record { committed = None; written = Nothing }

more : (c : After-push_reserved-2) → c.push_reserved.new.self.items ≡ c.args.self.now.records.items ++ given ∷ []
more c = c.push_reserved.ensures.items ∙ ap (λ l. l ++ given ∷ []) c.reserve.ensures.items

pub invariant_of-self-2 : goal.invariant_of-self-2
invariant_of-self-2 c =
    let at = (goal.at.invariant_of-self-2 c).After-push_reserved-2 in
    let table = c.args.self.now in
    let indices = table.indices in
    let records = table.records.items in
    let keys : c.push_reserved-2.new.self.items ≡ table.keys.items ++ c.args.key ∷ [] =
    c.push_reserved-2.ensures.items ∙ ap (λ l. l ++ c.args.key ∷ []) c.reserve-2.ensures.items in
    record {
      are_indices = subst (AreIndices c.insert.new.self) (sym (more at))
          (added_indices indices c.insert.new.self records table.are_indices c.args.key given (index_returned at));
      are_keys = subst₂ (λ ks rs. AreKeys c.insert.new.self ks (length rs)) (sym keys) (sym (more at))
          (added_keys indices c.insert.new.self records table.are_indices c.args.key given (index_returned at) table.keys.items
          (length records) refl table.are_keys (absent at));
    }

pub returns-clause-records : goal.returns-clause-records
returns-clause-records c k =
    let at = (goal.at.returns-clause-records c).After-push_reserved-2 in
    let records = c.args.self.now.records.items in
    let new = ap (λ l. option_and_then (slice_get l) (get key_cmp c.insert.new.self k)) (more at)
    ∙ added_returned c.args.self.now.indices c.insert.new.self records c.args.self.now.are_indices c.args.key given (index_returned at) k in
    go (key_eq c.args.key k) refl new
  where
    go : (e : Bool) → key_eq c.args.key k ≡ e
        → option_and_then (slice_get c.push_reserved.new.self.items) (get key_cmp c.insert.new.self k)
        ≡ cond e (Some given) (option_and_then (slice_get c.args.self.now.records.items) (get key_cmp c.args.self.now.indices k))
        → (option_and_then (slice_get c.push_reserved.new.self.items) (get key_cmp c.insert.new.self k)
        ≡ option_and_then (slice_get c.args.self.now.records.items) (get key_cmp c.args.self.now.indices k))
        ⊎ ((option_and_then (slice_get c.args.self.now.records.items) (get key_cmp c.args.self.now.indices k) ≡ None)
        × (option_and_then (slice_get c.push_reserved.new.self.items) (get key_cmp c.insert.new.self k) ≡ Some given))
    go true e new = inr (
      ap (option_and_then (slice_get c.args.self.now.records.items))
          (ap (get key_cmp c.args.self.now.indices) (sym (key_eq-true c.args.key k e))
          ∙ absent (goal.at.returns-clause-records c).After-push_reserved-2),
      new,
    )
    go false e new = inl new

pub returns-clause-stay : goal.returns-clause-stay
returns-clause-stay c =
    let at = (goal.at.returns-clause-stay c).After-push_reserved-2 in
    indices_stay c.args.self.now.indices c.insert.new.self c.args.self.now.records.items c.args.self.now.are_indices c.args.key given
    (index_returned at) (absent at)

pub returns-clause-others : goal.returns-clause-others
returns-clause-others c =
    let at = (goal.at.returns-clause-others c).After-push_reserved-2 in
    others_returned c.args.self.now.indices c.insert.new.self c.args.self.now.records.items c.args.self.now.are_indices c.args.key given
    (index_returned at)
