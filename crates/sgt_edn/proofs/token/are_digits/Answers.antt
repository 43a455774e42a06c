use Rattle.std.proofs.Common.{rules, ◌≡◌, ◌+◌, true, false, get_or, drop, sym, ap, ◌∙◌, drop_of_length-le}
use Rattle.std.proofs.lemmas.List.{at_drop_more}
use Rattle.sgt_edn.specs.Bytes.{is_digit}
use Rattle.sgt_edn.specs.Tokens.{are_digits}
use Rattle.sgt_edn.proofs.Steps.{and_true, and_false}
use Rattle.sgt_edn.proofs.token.are_digits.Goals as goal

pub returns-then-not-is_digit : goal.returns-then-not-is_digit
returns-then-not-is_digit c =
    let x = get_or c.args.bytes.now c.loop-byte.byte-index 0 in
    let not : is_digit x ≡ false = search rules in
    sym (and_false (is_digit x) (are_digits (drop (c.loop-byte.byte-index + 1) c.args.bytes.now)) not)
    ∙ sym (at_drop_more are_digits c.args.bytes.now c.loop-byte.byte-index 0 c.loop-byte-test.true) ∙ c.loop-byte.invariant

pub loop-byte-preserved : goal.loop-byte-preserved
loop-byte-preserved c =
    let x = get_or c.args.bytes.now c.loop-byte.byte-index 0 in
    let is : is_digit x ≡ true = search rules in
    sym (and_true (is_digit x) (are_digits (drop (c.loop-byte.byte-index + 1) c.args.bytes.now)) is)
    ∙ sym (at_drop_more are_digits c.args.bytes.now c.loop-byte.byte-index 0 c.loop-byte-test.true) ∙ c.loop-byte.invariant

pub returns : goal.returns
returns c =
    sym (ap are_digits (drop_of_length-le c.args.bytes.now (search rules))) ∙ c.loop-byte.invariant
