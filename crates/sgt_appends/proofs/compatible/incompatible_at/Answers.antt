use Rattle.std.proofs.Common.{rules, ◌≡◌, subst}
use Rattle.sgt_appends.specs.Reads.{HasFault}
use Rattle.sgt_appends.proofs.compatible.incompatible_at.Goals as goal

pub returns-in-Some-incompatible : goal.returns-in-Some-incompatible
returns-in-Some-incompatible c =
    let reader : c.in-Some.read.reader ≡ c.args.number = search rules in
    let position : c.in-Some.read.position ≡ c.args.position = search rules in
    let has : HasFault c.args.history.now c.in-Some.read.reader c.in-Some.read.position c.in-Some-incompatible.fault = search rules in
    subst (λ p. HasFault c.args.history.now c.args.number p c.in-Some-incompatible.fault) position
    (subst (λ r. HasFault c.args.history.now r c.in-Some.read.position c.in-Some-incompatible.fault) reader has)
