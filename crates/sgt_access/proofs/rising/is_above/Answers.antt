use Rattle.std.proofs.Common.{rules, ◌<◌, sym}
use Rattle.sgt_access.proofs.RisingLists.{above_last}
use Rattle.sgt_access.proofs.rising.is_above.Goals as goal

pub returns-in-Some : goal.returns-in-Some
returns-in-Some c less =
    let lower : c.in-Some.last.now < c.args.t = search (rules, less) in
    above_last c.args.tids.now c.in-Some.last.now c.args.t c.requires (sym c.in-Some.ensures.value) lower
