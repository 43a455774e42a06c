use Rattle.std.proofs.Common.{ℕ, ◌≤◌, Bool, true, false, cond, arith}
use Rattle.sgt_session.proofs.Counted.{numbers-length}
use Rattle.sgt_session.proofs.numbers.Numbers.reserve.Goals as goal

no-more : (b : Bool) (n : ℕ) → cond b n 0 ≤ n
no-more true n = omega arith
no-more false n = omega arith

pub returns-clause-enough : goal.returns-clause-enough
returns-clause-enough c =
    let n = c.self.inside in
    let long = numbers-length n.is_listed n.listed.items n.first n.count (omega (arith, n.listed.ok.0, c.self.invariant.2)) in
    let fewer = no-more n.is_listed n.count in
    rw c.in_ok-reserve.ensures.items (omega (
      arith,
      long,
      fewer,
      c.in_ok-reserve.ensures.ok,
      c.in_ok-reserve.ensures.len,
      c.in-Some.ensures,
      c.len.ensures,
      c.self.invariant.2,
    ))
