use Rattle.std.proofs.Common.{rules, refl, subst}
use Rattle.sgt_format.specs.Openings.{AreAsks}
use Rattle.std.proofs.lemmas.Int.{to_z-of_z}
use mir.Syntax.{w64}
use Rattle.sgt_format.proofs.sheet.limits.Goals as goal

pub returns-in_err-asks-clause-none : goal.returns-in_err-asks-clause-none
returns-in_err-asks-clause-none c = λ none limits are. c.in_err-asks.ensures.none refl limits.asks
    (subst (λ n. AreAsks n limits.asks) (search rules) are.asks)

pub returns-then-limits-least-clause-some : goal.returns-then-limits-least-clause-some
returns-then-limits-least-clause-some c = record {
  live = search rules;
  begins = search rules;
  asks = subst (λ n. AreAsks n c.in_ok-asks.field-0) (to_z-of_z w64 c.args.numbers.asks (search rules)) c.in_ok-asks.ensures.some;
  in_range = c.if-are_in_range.ensures.0 refl;
  enough = c.if-limits-least.true;
}
