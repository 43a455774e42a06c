use Rattle.sgt_access.proofs.Covering.{masks_left}
use Rattle.sgt_access.proofs.masks.Masks.free.Goals as goal

pub returns : goal.returns
returns c t accesses leaving none exact = masks_left c.args.self.now.places.taken c.args.self.now.places.tids c.args.self.now.spots.items accesses t
    c.args.places _ _ c.free.ensures.tids c.free.ensures.taken none (leaving exact)
