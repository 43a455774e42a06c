use Rattle.std.proofs.Common.{rules, sym, subst, ◌∙◌, inl, inr, arith}
use Rattle.std.proofs.lemmas.List.{take_all}
use Rattle.sgt_model.specs.Paths.{Member}
use Rattle.sgt_explain.proofs.Untouched.{member_next}
use Rattle.sgt_explain.proofs.bounds.cover_all.Goals as goal

pub loop-i-preserved : goal.loop-i-preserved
loop-i-preserved c = record {
  same = λ u. c.cover.ensures.same u ∙ c.loop-i.invariant.same u;
  no_less = let one = c.cover.ensures.no_less in let two = c.loop-i.invariant.no_less in omega (arith, one, two);
  long = λ u member. elim (member_next u c.args.tids.now c.loop-i.i c.index-tids-i.result c.loop-i-test.true member) [
    | inl early ↦
        let one = c.cover.ensures.no_less in let two = c.loop-i.invariant.long u early in omega (arith, one, two)
    | inr next ↦ let long = c.in_ok-cover.ensures.long in let is = c.index-tids-i.is in omega (arith, long, is, next)
  ];
}

pub returns-clause-long : goal.returns-clause-long
returns-clause-long c = λ u member.
    c.loop-i.invariant.long u (subst (Member u) (sym (take_all c.loop-i.i c.args.tids.now (search rules))) member)
