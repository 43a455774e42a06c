use Rattle.std.proofs.Common.{slice_get, length, sym, ap, ◌∙◌, arith}
use Rattle.sgt_session.proofs.Filed.{receipts-length, receipts-at}
use Rattle.sgt_session.proofs.receipts.Receipts.at.Goals as goal

pub at-entry-requires : goal.at-entry-requires
at-entry-requires c =
    let long = receipts-length c.self.inside.numbers.items c.self.inside.calls.entries c.self.invariant.0 in
    let is = ap (λ r. length r.receipts) c.self.view_is in
    omega (arith, long, is, c.requires, c.self.invariant.0)

pub returns : goal.returns
returns c =
    sym (ap (λ r. slice_get r.receipts c.args.place) c.self.view_is)
    ∙ receipts-at c.self.inside.numbers.items c.self.inside.calls.entries c.args.place c.at.result c.at-entry.result c.at.ensures
    c.at-entry.ensures.entry
