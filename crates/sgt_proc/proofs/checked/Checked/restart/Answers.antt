use Rattle.std.proofs.Common.{ap}
use Rattle.sgt_proc.proofs.Moved.{begun}
use Rattle.sgt_proc.proofs.checked.Checked.restart.Goals as goal

pub returns : goal.returns
returns c =
    rw (c.of-2.ensures, c.of.ensures)
    (ap (λ l. (c.args.self.now, l)) (begun c.args.self.now c.args.args.now c.restart.new.self c.advance.new.stop
    c.advance.ensures.stops.found c.restart.ensures.args c.restart.ensures.registers c.restart.ensures.answers c.restart.ensures.path
    c.restart.ensures.at))
