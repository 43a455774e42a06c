use Rattle.std.proofs.Common.{slice_get, length, sym, ap, ◌∙◌, arith}
use Rattle.std.specs.Option.{option_map}
use Rattle.sgt_session.specs.declared.receipt.Receipt.{Receipt}
use Rattle.sgt_session.proofs.Filed.{receipts-length, receipts-number}
use Rattle.sgt_session.proofs.receipts.Receipts.number.Goals as goal

pub at-requires : goal.at-requires
at-requires c =
    let long = receipts-length c.self.inside.numbers.items c.self.inside.calls.entries c.self.invariant.0 in
    let is = ap (λ r. length r.receipts) c.self.view_is in
    omega (arith, long, is, c.requires)

pub returns : goal.returns
returns c =
    sym (ap (λ r. option_map (λ (t : Receipt). t.number) (slice_get r.receipts c.args.place)) c.self.view_is)
    ∙ receipts-number c.self.inside.numbers.items c.self.inside.calls.entries c.args.place c.at.result c.self.invariant.0 c.at.ensures
