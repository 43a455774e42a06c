use Rattle.std.proofs.Common.{rules, ◌≡◌, ℤ, ◌∷◌, ◌++◌, [], Option, IfSome, Some, map, w64, ap, sym, subst, ◌∙◌, cond}
use Rattle.std.proofs.lemmas.Int.{to_z-of_z}
use Rattle.std.proofs.lemmas.List.{map-append}
use Rattle.std.proofs.lemmas.Map.Iter.{btree_map_turn, iter_end}
use Rattle.std.specs.BTreeMap.{get}
use Rattle.std.specs.Map.Iter.{deref_pair}
use Rattle.std.specs.Option.{option_flatten}
use Rattle.sgt_model.specs.Numbers.{IsValue}
use Rattle.sgt_model.specs.Contents.{key_eq}
use Rattle.sgt_model.specs.Databases.{key_cmp, contents_of}
use Rattle.sgt_model.proofs.Rows.{key_order}
use Rattle.sgt_records.proofs.RecordsRead.{read_so_far, value_more, empty_more, all_read}
use Rattle.sgt_records.proofs.committed.Committed.all.Goals.{In-Some}
use Rattle.sgt_records.proofs.committed.Committed.all.Goals as goal

-- the key has the record that was read with it
found : (c : In-Some) → get key_cmp c.args.self.now.records c.in-Some.key.now ≡ Some c.in-Some.record.now
found c =
    let start = c.into_iter-key-iterator.ensures.into_iter_gives in
    (btree_map_turn deref_pair c.loop-key.yielded c.into_iter-key-iterator.result c.loop-key.key-iterator c.next.new.self c.next.result
    (c.in-Some.key, c.in-Some.record) c.loop-key.yielded_by c.in-Some.is c.next.ensures.steps key_order c.args.self.now.records start.0
    start.5).1

pub put-requires : goal.put-requires
put-requires c =
    let there = found (goal.at.put-requires c).In-Some in
    subst IsValue (sym (to_z-of_z w64 c.in-Some-record.value (search rules)))
    (subst (λ (o : Option ℤ). IfSome o IsValue) (ap option_flatten there ∙ c.in-Some-record.is)
    (c.args.self.now.in_range c.in-Some.key.now))

pub loop-key-preserved-in-Continue-1 : goal.loop-key-preserved-in-Continue-1
loop-key-preserved-in-Continue-1 c =
    let records = c.args.self.now.records in
    let key = c.in-Some.key.now in
    let there = found (goal.at.loop-key-preserved-in-Continue-1 c).In-Some in
    record {
      by_key = c.in_ok-put.ensures.by_key;
      values = λ k. c.in_ok-put.ensures.put k
          ∙ (ap (λ v. cond (key_eq key k) (Some v) (contents_of c.loop-key.values k)) (to_z-of_z w64 c.in-Some-record.value (search rules))
          ∙ (ap (λ o. cond (key_eq key k) (Some c.in-Some-record.value) o) (c.loop-key.invariant.values k)
          ∙ (sym (value_more records (map deref_pair c.loop-key.yielded) key c.in-Some-record.value
          (there ∙ ap (λ o. Some o) c.in-Some-record.is) k)
          ∙ (ap (λ (o : Option ℤ). read_so_far records (map deref_pair c.loop-key.yielded ++ (key, o) ∷ []) k) (sym c.in-Some-record.is)
          ∙ ap (λ l. read_so_far records l k) (sym (map-append deref_pair c.loop-key.yielded ((c.in-Some.key, c.in-Some.record) ∷ [])))))));
    }

pub loop-key-preserved : goal.loop-key-preserved
loop-key-preserved c =
    let records = c.args.self.now.records in
    let key = c.in-Some.key.now in
    let there = found (goal.at.loop-key-preserved c).In-Some in
    record {
      by_key = c.loop-key.invariant.by_key;
      values = λ k. c.loop-key.invariant.values k
          ∙ (sym (empty_more records (map deref_pair c.loop-key.yielded) key (there ∙ ap (λ o. Some o) c.in_default.is) k)
          ∙ (ap (λ (o : Option ℤ). read_so_far records (map deref_pair c.loop-key.yielded ++ (key, o) ∷ []) k) (sym c.in_default.is)
          ∙ ap (λ l. read_so_far records l k) (sym (map-append deref_pair c.loop-key.yielded ((c.in-Some.key, c.in-Some.record) ∷ [])))));
    }

pub returns-clause-values : goal.returns-clause-values
returns-clause-values c k =
    let records = c.args.self.now.records in
    let whole : map deref_pair c.loop-key.yielded ≡ records.entries = search (rules, iter_end) in
    c.loop-key.invariant.values k ∙ (ap (λ l. read_so_far records l k) whole ∙ all_read records k)
