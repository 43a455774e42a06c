use Rattle.std.proofs.Common.{refl, IsSome, arith, sym, subst, w64, ◌≤◌, length}
use Rattle.std.proofs.lemmas.Int.{to_z-of_z}
use Rattle.sgt_model.specs.Databases.{IsByKey, IsRowIndex}
use Rattle.sgt_model.proofs.Rows.{insert_rows, insert_reported, index_within, value_found, value_missing}
use Rattle.sgt_model.proofs.database.Database.put_new.Goals as goal

pub insert-requires : goal.insert-requires
insert-requires c =
    let within : c.in-Err.at ≤ length c.self.inside.rows.items = index_within c.args.key c.self.inside.rows.items c.in-Err.at
    (subst (λ rows. IsRowIndex c.args.key rows c.in-Err.at) (sym c.self.view_is) c.in-Err.ensures.0) in
    omega arith

pub invariant_of-self-in-Err : goal.invariant_of-self-in-Err
invariant_of-self-in-Err c =
    insert_rows c.args.key c.args.value _ c.self.inside.rows.items c.args.self.now c.insert.new.self.items c.in-Err.at
    (to_z-of_z w64 c.args.value c.ranges.value) c.self.view_is c.in_ok-insert-in-Err.ensures.items c.in-Err.ensures
    c.requires c.self.invariant

pub returns-in-Ok-clause-taken : goal.returns-in-Ok-clause-taken
returns-in-Ok-clause-taken c same =
    let found = c.in-Ok.ensures in
    subst (λ o. IsSome o) (value_found c.args.key c.args.self.now c.in-Ok.field-0 found.1
    (subst IsByKey c.self.view_is c.self.invariant.0) found.0 found.2) refl

pub returns-in_ok-insert-in-Err-clause-put : goal.returns-in_ok-insert-in-Err-clause-put
returns-in_ok-insert-in-Err-clause-put c same =
    insert_reported c.args.key c.args.value _ c.self.inside.rows.items c.args.self.now c.insert.new.self.items c.in-Err.at
    (to_z-of_z w64 c.args.value c.ranges.value) c.self.view_is c.in_ok-insert-in-Err.ensures.items c.in-Err.ensures.0

pub returns-in_ok-insert-in-Err-clause-new : goal.returns-in_ok-insert-in-Err-clause-new
returns-in_ok-insert-in-Err-clause-new c same =
    sym (value_missing c.args.key c.args.self.now c.in-Err.at
    (subst IsByKey c.self.view_is c.self.invariant.0) c.in-Err.ensures.0 c.in-Err.ensures.1)

pub returns-in_ok-insert-in-Err-clause-by_key : goal.returns-in_ok-insert-in-Err-clause-by_key
returns-in_ok-insert-in-Err-clause-by_key c =
    (insert_rows c.args.key c.args.value _ c.self.inside.rows.items c.args.self.now c.insert.new.self.items c.in-Err.at
    (to_z-of_z w64 c.args.value c.ranges.value) c.self.view_is c.in_ok-insert-in-Err.ensures.items c.in-Err.ensures
    c.requires c.self.invariant).0
