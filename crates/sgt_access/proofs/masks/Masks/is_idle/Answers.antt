use Rattle.std.proofs.Common.{rules, ◌<◌, length}
use Rattle.sgt_access.proofs.Covering.{idle_none}
use Rattle.sgt_access.proofs.masks.Masks.is_idle.Goals as goal

pub returns : goal.returns
returns c is accesses covers =
    let some : 0 < length c.args.self.now.spots.items = search rules in
    idle_none _ _ _ accesses (c.is_free.ensures is) (covers some)
