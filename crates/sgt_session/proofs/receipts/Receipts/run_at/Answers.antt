use Rattle.std.proofs.Common.{◌≡◌, ◌+◌, Some, slice_get, length, sym, ap, subst, inl, inr, ◌∙◌, arith}
use Rattle.std.proofs.lemmas.Bool.{cases_lt}
use Rattle.sgt_session.specs.Receipts.{receipt_of}
use Rattle.sgt_session.proofs.Filed.{receipts-length, receipts-at}
use Rattle.sgt_session.proofs.receipts.Receipts.run_at.Goals as goal

pub following-count-requires-clause-there : goal.following-count-requires-clause-there
following-count-requires-clause-there c =
    let long = receipts-length c.self.inside.numbers.items c.self.inside.calls.entries c.self.invariant.0 in
    let is = ap (λ r. length r.receipts) c.self.view_is in
    omega (arith, long, is, c.len.ensures, c.saturating_sub-left.ensures, c.min-most.ensures, c.if-left-eq0.false)

pub is_same_at-requires-clause-here : goal.is_same_at-requires-clause-here
is_same_at-requires-clause-here c =
    let long = receipts-length c.self.inside.numbers.items c.self.inside.calls.entries c.self.invariant.0 in
    let is = ap (λ r. length r.receipts) c.self.view_is in
    omega (
      arith,
      long,
      is,
      c.len.ensures,
      c.saturating_sub-left.ensures,
      c.min-most.ensures,
      c.if-left-eq0.false,
      c.self.invariant.0,
      c.following-count.ensures.most,
      c.loop-k-test.true,
    )

pub loop-k-preserved : goal.loop-k-preserved
loop-k-preserved c j less e there = elim (cases_lt j c.loop-k.k) [
  | inl before ↦ c.loop-k.invariant j before e there
  | inr last ↦
      let same : j ≡ c.loop-k.k = omega (arith, less, last) in
      let here : slice_get c.args.history.now.entries (c.args.number + c.loop-k.k) ≡ Some e =
      subst (λ i. slice_get c.args.history.now.entries (c.args.number + i) ≡ Some e) same there in
      subst (λ i. slice_get c.args.self.now.receipts (c.args.place + i) ≡ Some (receipt_of (c.args.number + i) e)) (sym same)
      (sym (ap (λ r. slice_get r.receipts (c.args.place + c.loop-k.k)) c.self.view_is)
      ∙ receipts-at c.self.inside.numbers.items c.self.inside.calls.entries (c.args.place + c.loop-k.k) (c.args.number + c.loop-k.k) e
      (c.following-count.ensures.numbers c.loop-k.k c.loop-k-test.true)
      (c.is_same_at.ensures.0 c.if-not-is_same_at.false ∙ here))
]
