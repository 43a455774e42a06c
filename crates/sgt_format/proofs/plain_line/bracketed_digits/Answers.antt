use Rattle.std.proofs.Common.{rules, refl, arith}
use Rattle.sgt_format.proofs.PlainLines.{one_more_digit}
use Rattle.sgt_format.proofs.BracketedDigits.{digit_inside, ten_digits, one_digit_more}
use Rattle.sgt_format.proofs.plain_line.bracketed_digits.Goals as goal

pub loop-number-preserved : goal.loop-number-preserved
loop-number-preserved c =
    let digit = c.loop-number-test.ensures refl in
    let few = ten_digits c.loop-number.number c.loop-number.digits c.loop-number.invariant.small
    (omega (arith, c.loop-number.invariant.within, c.requires.some.1)) in
    let value = c.from.ensures in
    record {
      within = digit_inside c.args.text.now c.loop-number.digits c.requires.bracket digit.1 c.loop-number.invariant.within;
      some = omega (arith, c.loop-number.invariant.some);
      small = one_digit_more c.loop-number.number _ _ c.loop-number.digits c.loop-number.invariant.small
          (omega (arith, value, digit.0, digit.1)) refl;
      read = one_more_digit _ _ c.loop-number.number _ (search rules) c.loop-number.invariant.read c.loop-number.invariant.some
          (omega (arith, few)) digit.0 digit.1 (search rules);
    }
