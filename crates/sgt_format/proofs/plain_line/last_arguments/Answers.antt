use Rattle.std.proofs.Common.{rules, ◌∷◌, [], ◌++◌, length, length-append, sym, ap, ◌∙◌, arith}
use Rattle.sgt_format.proofs.Numerals.{from_bits}
use Rattle.sgt_format.proofs.PlainCalls.{one_argument_more, one_small_more, arguments_end}
use Rattle.sgt_format.proofs.plain_line.last_arguments.Goals as goal

pub loop-rest-preserved : goal.loop-rest-preserved
loop-rest-preserved c =
    let same = sym (from_bits c.in_ok-number.number (search rules)) in
    let longer = c.push.ensures ∙ ap (λ n. c.loop-rest.args ++ n ∷ []) same in
    record {
      few = grind (
        arith,
        ap length c.push.ensures ∙ length-append c.loop-rest.args _,
        c.loop-rest.invariant.few,
        c.if-len-eq4.false,
        c.len.ensures.count,
      );
      small = one_small_more c.loop-rest.args _ _ c.loop-rest.invariant.small c.in_ok-number.ensures.small longer;
      read = one_argument_more _ _ _ c.in_ok-number.ensures.text.0 c.loop-rest.args _ _ c.loop-rest.invariant.read
          c.in_ok-number.ensures.text.1 c.in_ok-number.ensures.text.2 longer;
    }

pub returns-clause-text : goal.returns-clause-text
returns-clause-text c = arguments_end _ _ c.loop-rest.args c.loop-rest.invariant.read (search rules)
