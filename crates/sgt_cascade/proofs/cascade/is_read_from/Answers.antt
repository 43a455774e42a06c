use Rattle.sgt_cascade.proofs.Fallen.{none_reached}
use Rattle.sgt_cascade.proofs.cascade.is_read_from.Goals as goal

pub returns : goal.returns
returns c none u other reached = none_reached c.args.read_from.now c.args.t (c.has_reader.ensures none) u other reached
