use Rattle.std.proofs.Common.{rules, ◌∷◌, [], ◌++◌, length, length-append, map, refl, sym, ap, ◌∙◌, arith}
use Rattle.json.specs.Token.{number}
use Rattle.sgt_format.proofs.LineTokens.{one_more}
use Rattle.sgt_format.proofs.Numerals.{as_many, from_bits}
use Rattle.sgt_format.proofs.line_tokens.take_arguments.Goals as goal

pub loop-args-preserved : goal.loop-args-preserved
loop-args-preserved c =
    let taken = sym (c.loop-args-test.ensures.kept refl) ∙ c.in_ok-take_whole.ensures.1 in
    let same = sym (from_bits c.in_ok-take_whole.field-0 (search rules)) in
    record {
      few = grind (
        arith,
        ap length c.push.ensures ∙ length-append c.loop-args.args _,
        c.loop-args.invariant.few,
        c.if-len-eq4.false,
        c.len.ensures.count,
      );
      read = one_more _ _ _ c.loop-args.invariant.read.0 c.in_ok-take_whole.ensures.0 c.loop-args.args _ _
          c.loop-args.invariant.read.1 taken c.loop-args.invariant.read.2 c.in_ok-take_whole.ensures.2
          (c.push.ensures ∙ ap (λ z. c.loop-args.args ++ z ∷ []) same);
    }

pub returns : goal.returns
returns c = (
  c.loop-args.invariant.read.0,
  c.loop-args.invariant.read.1 ∙ ap (λ ts. map number c.loop-args.invariant.read.0 ++ ts) (c.loop-args-test.ensures.taken refl),
  c.loop-args.invariant.read.2,
  omega (arith, as_many c.loop-args.invariant.read.0 c.loop-args.args c.loop-args.invariant.read.2, c.loop-args.invariant.few),
)
