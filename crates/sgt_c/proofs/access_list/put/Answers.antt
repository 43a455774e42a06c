use Rattle.std.proofs.Common.{◌<◌, length, ap, ◌∙◌, arith}
use Rattle.sgt_c.specs.AccessStructs.{listed, said}
use Rattle.sgt_c.proofs.AccessLists.{adds_within}
use Rattle.sgt_c.proofs.access_list.put.Goals as goal

pub returns-clause-put : goal.returns-clause-put
returns-clause-put c xs ys long holds is =
    let fits : c.args.count < length c.args.to.now = omega (arith, c.if-count-to.false) in
    adds_within c.args.to.now c.args.count c.in-Some.access fits xs ys long holds (is ∙ ap (listed said) c.in-Some.is)
