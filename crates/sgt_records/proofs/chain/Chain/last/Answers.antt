use Rattle.std.proofs.Common.{rules, ◌≡◌, ◌-◌, ℤ, Option, Some, length, slice_get, ap, sym, ◌∙◌}
use Rattle.sgt_records.proofs.ChainIndices.{last_get}
use Rattle.sgt_records.proofs.chain.Chain.last.Goals as goal

pub returns-in-Some : goal.returns-in-Some
returns-in-Some c =
    let items = c.args.self.now.writes.items in
    let is : Some c.in-Some.write.now ≡ slice_get items (length items - 1) = search rules in
    ap (λ (v : Option ℤ). Some (c.in-Some.write.now.0, v)) c.get.ensures ∙ (is ∙ sym (last_get items))
