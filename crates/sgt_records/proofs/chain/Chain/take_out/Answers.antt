use Rattle.std.proofs.Common.{rules, sym, ◌∙◌, arith, ap, Some, ℕ, ℤ, Option}
use Rattle.sgt_records.proofs.ChainIndices.{not_found, found, at_index, value_at, taken_out, left_whole, no_value}
use Rattle.sgt_records.proofs.chain.Chain.take_out.Goals as goal

pub remove-value-requires : goal.remove-value-requires
remove-value-requires c = (omega arith, at_index c.args.t c.args.self.now.writes.items c.in_ok-at.at (found c.args.t _ _ (search rules)))

pub returns-in_err-at-clause-value : goal.returns-in_err-at-clause-value
returns-in_err-at-clause-value c = c.from_residual.ensures
    ∙ sym (no_value c.args.t c.args.self.now.writes.items (not_found c.args.t 0 _ (search rules)))

pub returns-in_err-at-clause-left : goal.returns-in_err-at-clause-left
returns-in_err-at-clause-left c = sym (left_whole c.args.t c.args.self.now.writes.items (not_found c.args.t 0 _ (search rules)))

pub returns-clause-value : goal.returns-clause-value
returns-clause-value c =
    let w = c.remove-value.result in
    let at = found c.args.t c.args.self.now.writes.items c.in_ok-at.at (search rules) in
    ap (λ (v : Option ℤ). Some v) (c.get.ensures ∙ ap (λ (x : ℕ × Option ℤ). x.1) c.remove-value.ensures.value)
    ∙ sym (value_at c.args.t c.args.self.now.writes.items c.in_ok-at.at w at)

pub returns-clause-left : goal.returns-clause-left
returns-clause-left c = c.remove-value.ensures.items
    ∙ taken_out c.args.t c.args.self.now.writes.items c.in_ok-at.at (found c.args.t _ _ (search rules)) (c.requires.chain.once c.args.t)
