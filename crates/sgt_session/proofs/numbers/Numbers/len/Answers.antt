use Rattle.std.proofs.Common.{length, ap, arith}
use Rattle.sgt_session.proofs.Counted.{numbers-length}
use Rattle.sgt_session.proofs.numbers.Numbers.len.Goals as goal

pub returns : goal.returns
returns c =
    let n = c.self.inside in
    let long = numbers-length n.is_listed n.listed.items n.first n.count (omega (arith, n.listed.ok.0, c.self.invariant.2)) in
    let is = ap (λ v. length v.items) c.self.view_is in
    omega (arith, long, is)
