use Rattle.std.proofs.Common.{arith, refl}
use Rattle.sgt_input.proofs.Breaks.{break-first, break-near}
use Rattle.sgt_input.proofs.lines.find_break.Goals as goal

pub returns : goal.returns
returns c = break-first c.args.bytes.now c.args.within c.min-stop.result c.memchr.result c.min-stop.ensures c.memchr.ensures

pub returns-in-Some : goal.returns-in-Some
returns-in-Some c =
    break-near c.args.bytes.now 0 c.args.within c.min-stop.result _ c.min-stop.ensures (omega arith) refl c.in-Some.ensures.0
    c.in-Some.ensures.1
