use Rattle.std.proofs.Common.{◌≡◌, None, rules, arith, sym, subst, w64, ◌≤◌, length}
use Rattle.std.proofs.lemmas.Int.{to_z-of_z}
use Rattle.sgt_model.specs.Databases.{contents_of, IsByKey, IsRowIndex}
use Rattle.sgt_model.proofs.Rows.{set_rows, insert_rows, set_reported, insert_reported, index_within, value_missing}
use Rattle.sgt_model.proofs.database.Database.put.Goals as goal

pub invariant_of-self : goal.invariant_of-self
invariant_of-self c =
    let found = c.in-Ok.ensures in
    set_rows c.args.key c.args.value _ c.self.inside.rows.items c.args.self.now c.in-Ok.at found.1
    (to_z-of_z w64 c.args.value c.ranges.value) c.self.view_is found.2 c.requires c.self.invariant

pub insert-requires : goal.insert-requires
insert-requires c =
    let within : c.in-Err.at ≤ length c.self.inside.rows.items = index_within c.args.key c.self.inside.rows.items c.in-Err.at
    (subst (λ rows. IsRowIndex c.args.key rows c.in-Err.at) (sym c.self.view_is) c.in-Err.ensures.0) in
    omega arith

pub invariant_of-self-in-Continue-1 : goal.invariant_of-self-in-Continue-1
invariant_of-self-in-Continue-1 c =
    insert_rows c.args.key c.args.value _ c.self.inside.rows.items c.args.self.now c.insert.new.self.items c.in-Err.at
    (to_z-of_z w64 c.args.value c.ranges.value) c.self.view_is c.in_ok-insert-in-Err.ensures.items c.in-Err.ensures
    c.requires c.self.invariant

pub returns-in-Ok-clause-put : goal.returns-in-Ok-clause-put
returns-in-Ok-clause-put c =
    let found = c.in-Ok.ensures in
    set_reported c.args.key c.args.value _ c.self.inside.rows.items c.args.self.now c.in-Ok.at found.1
    (to_z-of_z w64 c.args.value c.ranges.value) c.self.view_is found.0 found.2

pub returns-in_ok-insert-in-Err-clause-put : goal.returns-in_ok-insert-in-Err-clause-put
returns-in_ok-insert-in-Err-clause-put c =
    insert_reported c.args.key c.args.value _ c.self.inside.rows.items c.args.self.now c.insert.new.self.items c.in-Err.at
    (to_z-of_z w64 c.args.value c.ranges.value) c.self.view_is c.in_ok-insert-in-Err.ensures.items c.in-Err.ensures.0

pub returns-in_err-insert-in-Err-clause-absent : goal.returns-in_err-insert-in-Err-clause-absent
returns-in_err-insert-in-Err-clause-absent c =
    let absent : contents_of c.args.self.now c.args.key ≡ None =
    sym (value_missing c.args.key c.args.self.now c.in-Err.at
    (subst IsByKey c.self.view_is c.self.invariant.0) c.in-Err.ensures.0 c.in-Err.ensures.1) in
    search rules

pub returns-in-Ok-clause-by_key : goal.returns-in-Ok-clause-by_key
returns-in-Ok-clause-by_key c =
    let found = c.in-Ok.ensures in
    (set_rows c.args.key c.args.value _ c.self.inside.rows.items c.args.self.now c.in-Ok.at found.1
    (to_z-of_z w64 c.args.value c.ranges.value) c.self.view_is found.2 c.requires c.self.invariant).0

pub returns-in_ok-insert-in-Err-clause-by_key : goal.returns-in_ok-insert-in-Err-clause-by_key
returns-in_ok-insert-in-Err-clause-by_key c =
    (insert_rows c.args.key c.args.value _ c.self.inside.rows.items c.args.self.now c.insert.new.self.items c.in-Err.at
    (to_z-of_z w64 c.args.value c.ranges.value) c.self.view_is c.in_ok-insert-in-Err.ensures.items c.in-Err.ensures
    c.requires c.self.invariant).0
