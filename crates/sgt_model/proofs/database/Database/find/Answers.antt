use Rattle.std.proofs.Common.{arith, ◌∙◌, sym, ap, length}
use Rattle.sgt_model.proofs.Rows.{read_at, found_index, other_index, past_index}
use Rattle.sgt_model.proofs.database.Database.find.Goals as goal

pub returns-then-eq : goal.returns-then-eq
returns-then-eq c = found_index c.args.key c.args.self.now c.index-at.result c.index.result.now c.index-at.ensures
    (read_at c.self.inside.rows.items c.args.self.now _ c.index.result.now c.self.view_is
    (omega (arith, ap length c.self.view_is)) c.index.ensures) (sym c.eq.ensures ∙ c.if-eq.true)

pub returns-else-eq : goal.returns-else-eq
returns-else-eq c = other_index c.args.key c.args.self.now c.index-at.result c.index.result.now c.index-at.ensures
    (read_at c.self.inside.rows.items c.args.self.now _ c.index.result.now c.self.view_is
    (omega (arith, ap length c.self.view_is)) c.index.ensures) (sym c.eq.ensures ∙ c.if-eq.false)

pub returns-else-at-len : goal.returns-else-at-len
returns-else-at-len c = past_index c.args.key c.args.self.now c.index-at.result c.index-at.ensures (omega (arith, ap length c.self.view_is))
