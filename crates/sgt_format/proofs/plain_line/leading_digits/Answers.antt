use Rattle.std.proofs.Common.{rules, refl, arith}
use Rattle.std.proofs.lemmas.Grind.{common_steps}
use Rattle.sgt_format.proofs.PlainLines.{one_more_digit}
use Rattle.sgt_format.proofs.plain_line.leading_digits.Goals as goal

pub loop-digits-preserved : goal.loop-digits-preserved
loop-digits-preserved c =
    let small = c.if-goes_on.ensures.number refl in
    let digit = c.if-goes_on.ensures.digit refl in
    let value = c.from.ensures in
    record {
      within = search rules;
      some = grind (arith, common_steps, small, digit.1, value, c.loop-digits.invariant.some);
      small = grind (arith, common_steps, small, digit.1, value);
      read = one_more_digit _ _ c.loop-digits.number _ (search rules) c.loop-digits.invariant.read c.loop-digits.invariant.some small
          digit.0 digit.1 (search rules);
    }
