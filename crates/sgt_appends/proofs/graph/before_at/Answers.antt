use Rattle.std.proofs.Common.{◌≡◌, ◌<◌, ◌-◌, suc, length, get_or, refl, arith}
use Rattle.std.proofs.lemmas.Grind.{common_steps}
use Rattle.sgt_appends.proofs.Spots.{has_at}
use Rattle.sgt_appends.proofs.graph.before_at.Goals as goal

pub position_in-requires : goal.position_in-requires
position_in-requires c =
    let within : c.args.index - 1 < length c.args.read.seen.now = grind (arith, common_steps, c.requires.within, c.if-index-eq0.false) in
    c.requires.indexed (get_or c.args.read.seen.now (c.args.index - 1) 0)
    (has_at c.args.read.seen.now (c.args.index - 1) (get_or c.args.read.seen.now (c.args.index - 1) 0) within refl)

pub returns : goal.returns
returns c =
    let after : c.args.index ≡ suc (c.args.index - 1) = grind (arith, common_steps, c.if-index-eq0.false) in
    (c.args.index - 1, after, c.position_in.ensures)
