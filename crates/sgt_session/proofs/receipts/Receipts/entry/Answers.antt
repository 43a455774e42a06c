use Rattle.std.proofs.Common.{length, sym, ap, ◌∙◌, arith, slice_get}
use Rattle.std.specs.Option.{option_map}
use Rattle.sgt_session.specs.Receipts.{entry_of}
use Rattle.sgt_session.proofs.Filed.{receipts-length, receipts-entry}
use Rattle.sgt_session.proofs.receipts.Receipts.entry.Goals as goal

pub entry-requires : goal.entry-requires
entry-requires c =
    let long = receipts-length c.self.inside.numbers.items c.self.inside.calls.entries c.self.invariant.0 in
    let is = ap (λ r. length r.receipts) c.self.view_is in
    omega (arith, long, is, c.requires, c.self.invariant.0)

pub returns : goal.returns
returns c =
    sym (ap (λ r. option_map entry_of (slice_get r.receipts c.args.place)) c.self.view_is)
    ∙ receipts-entry c.self.inside.numbers.items c.self.inside.calls.entries c.args.place c.self.invariant.0 ∙ c.entry.ensures.entry
