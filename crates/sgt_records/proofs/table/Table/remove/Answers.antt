use Rattle.std.proofs.Common.{rules, arith, ◌≡◌, ℕ, None, Some, ◌+◌, ◌-◌, ◌<◌, length, get_or, slice_get, refl, sym, ap, ◌∙◌}
use Rattle.std.proofs.lemmas.Option.{slice_get_read}
use Rattle.std.specs.BTreeMap.{get}
use Rattle.std.specs.Vec.{vec_len}
use Rattle.sgt_model.specs.Databases.{key_cmp}
use Rattle.sgt_records.proofs.TableIndices.{TakesLast, takes_last, on_ok, on_err, removed_returned, removed_indices, removed_keys}
use Rattle.sgt_records.proofs.table.Table.remove.Goals.{After-insert}
use Rattle.sgt_records.proofs.table.Table.remove.Goals as goal

-- the index of the last record
abbrev last : After-insert → ℕ
last c = c.len-last.result - 1

was : (c : After-insert) → last c + 1 ≡ length c.args.self.now.keys.items
was c =
    let table = c.args.self.now in
    let count : c.len-last.result ≡ length table.keys.items = search rules in
    let within : c.args.index < length table.records.items = table.are_indices.within c.args.key c.args.index c.requires in
    omega (arith, count, within, table.are_keys.as_many)

is_moved : (c : After-insert) → slice_get c.args.self.now.keys.items (last c) ≡ Some c.index-moved.result.now
is_moved c =
    let keys = c.args.self.now.keys.items in
    slice_get_read keys (length keys) (last c) c.index-moved.result.now refl (omega (arith, was c)) c.index-moved.ensures

keys_moved : (c : After-insert) → TakesLast c.args.self.now.keys.items c.swap_remove-2.new.self.items c.args.index (last c)
keys_moved c =
    let keys = c.args.self.now.keys.items in
    let keys_len : vec_len c.args.self.now.keys ≡ length keys = search rules in
    let left_len : vec_len c.swap_remove-2.new.self ≡ length c.swap_remove-2.new.self.items = search rules in
    takes_last keys _ c.args.index (last c) c.index-moved.result.now (omega (arith, c.swap_remove-2.ensures.len, keys_len, left_len)) (was c)
    (λ x lt. c.swap_remove-2.ensures.by_index.0 x (omega (arith, lt, keys_len)) ∙ ap (λ n. get_or keys (n - 1) x) keys_len)
    (λ p x other lt. c.swap_remove-2.ensures.by_index.1 p x other (omega (arith, lt, keys_len)))

records_moved : (c : After-insert) → TakesLast c.args.self.now.records.items c.swap_remove.new.self.items c.args.index (last c)
records_moved c =
    let records = c.args.self.now.records.items in
    let records_len : vec_len c.args.self.now.records ≡ length records = search rules in
    let shorter_len : vec_len c.swap_remove.new.self ≡ length c.swap_remove.new.self.items = search rules in
    takes_last records _ c.args.index (last c) c.swap_remove.result
    (omega (arith, c.swap_remove.ensures.len, records_len, shorter_len)) (was c ∙ c.args.self.now.are_keys.as_many)
    (λ x lt. c.swap_remove.ensures.by_index.0 x (omega (arith, lt, records_len)) ∙ ap (λ n. get_or records (n - 1) x) records_len)
    (λ p x other lt. c.swap_remove.ensures.by_index.1 p x other (omega (arith, lt, records_len)))

pub unreachable-requires : goal.unreachable-requires
unreachable-requires c =
    let at = (goal.at.unreachable-requires c).After-insert in
    let table = c.args.self.now in
    let moved = c.index-moved.result.now in
    let absent : get key_cmp table.indices moved ≡ None =
    on_err c.insert.result (sym c.is_err.ensures.value ∙ c.if-is_err.true) c.insert.ensures.absent in
    let there : Some (last at) ≡ None = sym (table.are_keys.are_indexed moved (last at) (is_moved at)) ∙ absent in
    absurd (cc)

pub invariant_of-self : goal.invariant_of-self
invariant_of-self c =
    let at = (goal.at.invariant_of-self c).After-insert in
    let table = c.args.self.now in
    let put = on_ok c.insert.result (sym c.is_err.ensures.value ∙ c.if-is_err.false) c.insert.ensures.updates in
    record {
      are_indices = removed_indices table.indices c.insert.new.self c.remove.new.self table.records.items _ table.keys.items _ table.are_indices
          table.are_keys c.args.key c.index-moved.result.now c.args.index (last at) c.requires (records_moved at) (keys_moved at)
          (is_moved at) put c.remove.ensures.updates;
      are_keys = removed_keys table.indices c.insert.new.self c.remove.new.self table.records.items _ table.keys.items _ table.are_indices
          table.are_keys c.args.key c.index-moved.result.now c.args.index (last at) c.requires (records_moved at) (keys_moved at)
          (is_moved at) put c.remove.ensures.updates;
    }

pub returns : goal.returns
returns c k =
    let at = (goal.at.returns c).After-insert in
    let table = c.args.self.now in
    let put = on_ok c.insert.result (sym c.is_err.ensures.value ∙ c.if-is_err.false) c.insert.ensures.updates in
    removed_returned table.indices c.insert.new.self c.remove.new.self table.records.items _ table.keys.items _ table.are_indices table.are_keys
    c.args.key c.index-moved.result.now c.args.index (last at) c.requires (records_moved at) (keys_moved at) (is_moved at) put
    c.remove.ensures.updates k
