use Rattle.std.proofs.Common.{length, ap, arith}
use Rattle.sgt_session.proofs.Counted.{numbers-length}
use Rattle.sgt_session.proofs.numbers.Numbers.push.Goals as goal

pub invariant_of-self : goal.invariant_of-self
invariant_of-self c =
    let n = c.self.inside in
    let long = numbers-length n.is_listed n.listed.items n.first n.count (omega (arith, n.listed.ok.0, c.self.invariant.2)) in
    let size = ap (λ v. length v.items) c.self.view_is in
    let capacity = ap (λ v. v.capacity) c.self.view_is in (
      omega (arith, long, size, capacity, c.requires.spare),
      omega (arith, c.if-number-self.true, c.requires.fits),
      rw c.if-not-self.true (rw c.if-not-self.true at c.self.invariant.2),
    )
