use Rattle.std.proofs.Common.{rules, ◌++◌, ◌∷◌, [], subst, sym}
use Rattle.sgt_access.specs.Masks.{StandsFor}
use Rattle.sgt_access.proofs.Held.{stored_first, stored_second}
use Rattle.sgt_access.proofs.known.store.Goals as goal

pub returns-then-is_alone-clause-stands : goal.returns-then-is_alone-clause-stands
returns-then-is_alone-clause-stands c =
    rw c.push_reserved.ensures.items (stored_first c.args.accesses.now.items c.args.lists.now (record { by = c.args.by; key = c.args.key; kind = c.args.kind }))

pub returns-then-add-clause-stands : goal.returns-then-add-clause-stands
returns-then-add-clause-stands c =
    stored_second c.args.accesses.now.items c.args.lists.now c.add.new.self (record { by = c.args.by; key = c.args.key; kind = c.args.kind }) (c.add.ensures.added c.if-add.true)

pub returns-clause-stands : goal.returns-clause-stands
returns-clause-stands c =
    rw (c.push_reserved-2.ensures.items, c.add.ensures.full c.if-add.false)
    (stored_first c.args.accesses.now.items c.args.lists.now (record { by = c.args.by; key = c.args.key; kind = c.args.kind }))
