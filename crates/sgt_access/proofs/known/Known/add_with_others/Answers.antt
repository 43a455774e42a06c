use Rattle.sgt_access.proofs.Counts.{stands_back}
use Rattle.sgt_access.proofs.Reordered.{covers_same}
use Rattle.sgt_access.proofs.known.Known.add_with_others.Goals as goal

pub returns-clause-known : goal.returns-clause-known
returns-clause-known c list start stands =
    c.add.ensures list (covers_same c.add_all.new.masks c.args.others.now list (stands_back list c.args.others.now stands) (c.add_all.ensures start))
