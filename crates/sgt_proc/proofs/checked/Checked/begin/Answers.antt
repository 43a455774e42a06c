use Rattle.std.proofs.Common.{refl, ap}
use Rattle.sgt_proc.proofs.Moved.{begun}
use Rattle.sgt_proc.proofs.checked.Checked.begin.Goals as goal

pub returns : goal.returns
returns c =
    rw (c.of.ensures, c.of-following.ensures)
    (ap (λ l. (c.args.self.now, l)) (begun c.args.self.now c.args.args.now _ c.advance.new.stop c.advance.ensures.stops.found
    c.copied.ensures refl c.new.ensures c.new-2.ensures refl))
