use Rattle.std.proofs.Common.{rules, sym, subst, ◌∙◌, inl, inr, arith}
use Rattle.sgt_explain.specs.Indexes.{IsUntouched}
use Rattle.sgt_explain.proofs.Untouched.{member_next}
use Rattle.sgt_explain.proofs.source.first_of_all.Goals as goal

pub loop-i-preserved : goal.loop-i-preserved
loop-i-preserved c = record {
  within = search rules;
  none = λ v n member below. elim (member_next v c.args.tids.now c.loop-i.i c.index-tids-i.result c.loop-i-test.true member) [
    | inl early ↦ c.loop-i.invariant.none v n early (let is = c.min-first.ensures in omega (arith, is, below))
    | inr next ↦ subst (λ u. IsUntouched c.args.history.now u n) (c.index-tids-i.is ∙ sym next)
        (c.first.ensures.none n (let is = c.min-first.ensures in omega (arith, is, below)))
  ];
}
