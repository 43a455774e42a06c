use Rattle.std.proofs.Common.{rules, ◌≡◌, ℕ, ℤ, ◌∷◌, [], Option, IfSome, Some, None, slice_get, map, w64, ap, sym, refl, subst, ◌∙◌, cond}
use Rattle.std.proofs.lemmas.Int.{to_z-of_z}
use Rattle.std.proofs.lemmas.List.{map-append}
use Rattle.std.proofs.lemmas.Map.Iter.{btree_map_turn, iter_end}
use Rattle.std.specs.BTreeMap.{get}
use Rattle.std.specs.Option.{option_and_then}
use Rattle.std.specs.Map.Iter.{deref_pair}
use Rattle.sgt_model.specs.Numbers.{IsValue}
use Rattle.sgt_model.specs.Contents.{key_eq}
use Rattle.sgt_model.specs.Databases.{key_cmp, contents_of}
use Rattle.sgt_model.proofs.Rows.{key_order}
use Rattle.sgt_records.specs.declared.record.Record.{Record}
use Rattle.sgt_records.specs.declared.table.Table.{Table}
use Rattle.sgt_records.specs.Tables.{record_in}
use Rattle.sgt_records.proofs.EntriesRead.{given_so_far, value_more, empty_more, all_given}
use Rattle.sgt_records.proofs.RecordSlots.{value_there}
use Rattle.sgt_records.proofs.index.Index.all.Goals.{In-Some}
use Rattle.sgt_records.proofs.index.Index.all.Goals as goal

abbrev value : Table → ℕ → Option ℤ
value table p = option_and_then (λ (r : Record). r.committed) (slice_get table.records.items p)

-- the value of the record at a key's place
value_is : (table : Table) (r : Record) (p : ℕ) (o : Option ℕ) → o ≡ Some p → option_and_then (slice_get table.records.items) o ≡ Some r
    → value table p ≡ r.committed
value_is table r p o at is =
    ap (option_and_then (λ (r : Record). r.committed)) (sym (ap (option_and_then (slice_get table.records.items)) at) ∙ is)

-- the key has the index that was read with it
found : (c : In-Some) → get key_cmp c.args.self.now.table.indices c.in-Some.key.now ≡ Some c.in-Some.index.now
found c =
    let start = c.into_iter-key-iterator.ensures.into_iter_gives in
    (btree_map_turn deref_pair c.loop-key.yielded c.into_iter-key-iterator.result c.loop-key.key-iterator c.next.new.self c.next.result
    (c.in-Some.key, c.in-Some.index) c.loop-key.yielded_by c.in-Some.is c.next.ensures.steps key_order c.args.self.now.table.indices
    start.0 start.5).1

pub at-requires : goal.at-requires
at-requires c = found (goal.at.at-requires c).In-Some

pub put-requires : goal.put-requires
put-requires c = subst IsValue (sym (to_z-of_z w64 c.in-Some-committed.value (search rules)))
    (subst (λ (o : Option ℤ). IfSome o IsValue) c.in-Some-committed.is
    (value_there (record_in c.args.self.now.table) c.args.self.now.chains c.in-Some.key.now c.at.result.now c.at.ensures
    c.args.self.now.is_index))

pub loop-key-preserved-in-Continue-1 : goal.loop-key-preserved-in-Continue-1
loop-key-preserved-in-Continue-1 c =
    let table = c.args.self.now.table in
    let indices = table.indices in
    let key = c.in-Some.key.now in
    let index = c.in-Some.index.now in
    let there = found (goal.at.loop-key-preserved-in-Continue-1 c).In-Some in
    record {
      by_key = c.in_ok-put.ensures.by_key;
      values = λ k. c.in_ok-put.ensures.put k
          ∙ (ap (λ v. cond (key_eq key k) (Some v) (contents_of c.loop-key.values k))
          (to_z-of_z w64 c.in-Some-committed.value (search rules))
          ∙ (ap (λ o. cond (key_eq key k) (Some c.in-Some-committed.value) o) (c.loop-key.invariant.values k)
          ∙ (sym (value_more (value table) indices (map deref_pair c.loop-key.yielded) key index c.in-Some-committed.value there
          (value_is table c.at.result.now index (get key_cmp indices key) there c.at.ensures ∙ c.in-Some-committed.is) k)
          ∙ ap (λ l. given_so_far (value table) indices l k) (sym (map-append deref_pair c.loop-key.yielded
          ((c.in-Some.key, c.in-Some.index) ∷ []))))));
    }

pub loop-key-preserved : goal.loop-key-preserved
loop-key-preserved c =
    let table = c.args.self.now.table in
    let indices = table.indices in
    let key = c.in-Some.key.now in
    let index = c.in-Some.index.now in
    let there = found (goal.at.loop-key-preserved c).In-Some in
    record {
      by_key = c.loop-key.invariant.by_key;
      values = λ k. c.loop-key.invariant.values k
          ∙ (sym (empty_more (value table) indices (map deref_pair c.loop-key.yielded) key index there
          (value_is table c.at.result.now index (get key_cmp indices key) there c.at.ensures ∙ c.in_default.is) k)
          ∙ ap (λ l. given_so_far (value table) indices l k) (sym (map-append deref_pair c.loop-key.yielded
          ((c.in-Some.key, c.in-Some.index) ∷ []))));
    }

pub returns-clause-values : goal.returns-clause-values
returns-clause-values c k =
    let table = c.args.self.now.table in
    let whole : map deref_pair c.loop-key.yielded ≡ table.indices.entries = search (rules, iter_end) in
    c.loop-key.invariant.values k
    ∙ (ap (λ l. given_so_far (value table) table.indices l k) whole
    ∙ (all_given (value table) table.indices k ∙ go (get key_cmp table.indices k)))
  where
    go : (o : Option ℕ) → option_and_then (value c.args.self.now.table) o
        ≡ option_and_then (λ (r : Record). r.committed) (option_and_then (slice_get c.args.self.now.table.records.items) o)
    go None = refl
    go (Some p) = refl
