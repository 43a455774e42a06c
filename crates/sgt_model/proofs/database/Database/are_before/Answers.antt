use Rattle.std.proofs.Common.{◌≡◌, ◌-◌, ◌<◌, length, get_or, arith, ap, sym, subst, ◌∙◌}
use Rattle.std.proofs.lemmas.Option.{slice_get_within}
use Rattle.sgt_model.specs.Databases.{IsByKey}
use Rattle.sgt_model.proofs.Rows.{key_lt-derived, read_at, low_moves, index_from}
use Rattle.sgt_model.proofs.database.Database.are_before.Goals as goal

pub returns : goal.returns
returns c later =
    let rows = c.args.self.now in
    let some : 0 < length rows = omega (arith, ap length c.self.view_is) in
    let last : length rows - 1 < length rows = omega (arith, some) in
    index_from c.args.key rows (length rows) (omega arith)
    (λ i r low at. low_moves rows (length rows - 1) c.index.result.now c.args.key (subst IsByKey c.self.view_is c.self.invariant.0)
    (read_at c.self.inside.rows.items rows (length rows - 1) c.index.result.now c.self.view_is last
    (subst (λ n. c.index.result.now ≡ get_or c.self.inside.rows.items n c.index.result.now)
    (omega (arith, ap length c.self.view_is)) c.index.ensures))
    (sym (key_lt-derived c.index.result.now.0 c.args.key) ∙ sym c.lt.ensures ∙ later) i r (omega (arith, some)) at)
    (λ i r high at. let within = slice_get_within rows i r at in absurd (omega (arith, within)))
