use Rattle.std.proofs.Common.{rules, ◌≡◌, ℤ, ◌∷◌, [], Option, IfSome, Some, map, w64, ap, sym, subst, ◌∙◌, cond}
use Rattle.std.proofs.lemmas.Int.{to_z-of_z}
use Rattle.std.proofs.lemmas.List.{map-append}
use Rattle.std.proofs.lemmas.Map.Iter.{btree_map_turn, iter_end}
use Rattle.std.specs.BTreeMap.{get}
use Rattle.std.specs.Map.Iter.{deref_pair}
use Rattle.sgt_model.specs.Numbers.{IsValue}
use Rattle.sgt_model.specs.Contents.{key_eq}
use Rattle.sgt_model.specs.Databases.{key_cmp, contents_of}
use Rattle.sgt_model.proofs.Rows.{key_order}
use Rattle.sgt_rows.proofs.Entries.{read_so_far, entry_more, all_read, lookup_contents}
use Rattle.sgt_rows.proofs.rows.by_key.Goals as goal

pub put-requires : goal.put-requires
put-requires c =
    let entries = c.args.entries.now in
    let start = c.into_iter-key-iterator.ensures.into_iter_gives in
    let found : get key_cmp entries c.in-Some.key.now ≡ Some c.in-Some.value.now =
    (btree_map_turn deref_pair c.loop-key.yielded c.into_iter-key-iterator.result c.loop-key.key-iterator c.next.new.self c.next.result
    (c.in-Some.key, c.in-Some.value) c.loop-key.yielded_by c.in-Some.is c.next.ensures.steps key_order entries start.0 start.5).1 in
    subst IsValue (sym (to_z-of_z w64 c.in-Some.value.now (search rules)))
    (subst (λ (o : Option ℤ). IfSome o IsValue) (sym (lookup_contents entries.entries c.in-Some.key.now) ∙ found)
    (c.requires c.in-Some.key.now))

pub loop-key-preserved : goal.loop-key-preserved
loop-key-preserved c k =
    let entries = c.args.entries.now in
    let key = c.in-Some.key.now in
    let value = c.in-Some.value.now in
    let start = c.into_iter-key-iterator.ensures.into_iter_gives in
    let found : get key_cmp entries key ≡ Some value =
    (btree_map_turn deref_pair c.loop-key.yielded c.into_iter-key-iterator.result c.loop-key.key-iterator c.next.new.self c.next.result
    (c.in-Some.key, c.in-Some.value) c.loop-key.yielded_by c.in-Some.is c.next.ensures.steps key_order entries start.0 start.5).1 in
    c.in_ok-put.ensures.put k
    ∙ (ap (λ v. cond (key_eq key k) (Some v) (contents_of c.loop-key.rows k)) (to_z-of_z w64 value (search rules))
    ∙ (ap (λ o. cond (key_eq key k) (Some value) o) (c.loop-key.invariant k)
    ∙ (sym (entry_more entries (map deref_pair c.loop-key.yielded) (key, value) found k)
    ∙ ap (λ l. read_so_far entries l k) (sym (map-append deref_pair c.loop-key.yielded ((c.in-Some.key, c.in-Some.value) ∷ []))))))

pub returns : goal.returns
returns c k =
    let entries = c.args.entries.now in
    let whole : map deref_pair c.loop-key.yielded ≡ entries.entries = search (rules, iter_end) in
    c.loop-key.invariant k ∙ (ap (λ l. read_so_far entries l k) whole ∙ all_read entries k)
