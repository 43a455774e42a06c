use Rattle.std.proofs.Common.{length, ap, arith}
use Rattle.sgt_session.proofs.Filed.{receipts-length}
use Rattle.sgt_session.proofs.receipts.Receipts.len.Goals as goal

pub returns : goal.returns
returns c =
    let long = receipts-length c.self.inside.numbers.items c.self.inside.calls.entries c.self.invariant.0 in
    let is = ap (λ r. length r.receipts) c.self.view_is in
    omega (arith, long, is, c.len.ensures)
