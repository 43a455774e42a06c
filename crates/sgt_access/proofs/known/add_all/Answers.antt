use Rattle.std.proofs.Common.{rules, ◌≡◌, ◌<◌, length, take, get_or}
use Rattle.std.proofs.lemmas.List.{take_more}
use Rattle.sgt_access.proofs.known.add_all.Goals as goal

pub loop-access-preserved : goal.loop-access-preserved
loop-access-preserved c start some =
    let item = c.access-item.result in
    let xs = c.args.accesses.now in
    let i = c.loop-access.access-index in
    let short : i < length xs = search rules in
    let is : get_or xs i item ≡ item = search rules in
    rw (take_more xs i item short, is) (c.add.ensures (take i xs) (c.loop-access.invariant start) some)
