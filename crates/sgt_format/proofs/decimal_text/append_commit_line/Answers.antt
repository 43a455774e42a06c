use Rattle.std.proofs.Common.{ℕ, List, rules, refl, sym, ap, ◌≡◌, ◌∙◌, ◌++◌, drop, w64, to_z, of_z, arith}
use lib.ListN.{replicate}
use Rattle.std.specs.Prelude.{codes}
use Rattle.std.specs.Fmt.{decimal, signed_decimal}
use Rattle.std.proofs.lemmas.Fmt.{length-decimal-le}
use Rattle.sgt_format.proofs.Numerals.{from_bits}
use Rattle.sgt_format.proofs.Written.{adds_four}
use Rattle.sgt_format.proofs.decimal_text.append_commit_line.Goals as goal

pub write_digits-start-requires : goal.write_digits-start-requires
write_digits-start-requires c = (omega (arith, length-decimal-le 20 c.args.number (omega arith) (omega arith) (omega arith)), omega arith)

pub returns-clause-ok : goal.returns-clause-ok
returns-clause-ok c =
    let same : to_z w64 (of_z w64 c.args.answer) ≡ c.args.answer = sym (from_bits c.args.answer (search rules)) in
    let following : List ℕ = drop 64 (replicate 96 0) in
    adds_four c.append_written.result c.args.lines.now.items c.write_digits-start.new.buf (decimal c.args.number) (codes " committed ")
    (signed_decimal c.args.answer) (codes "\n") following c.append_written.new.lines.items c.write_digits-start.result
    c.append_written.ensures.ok
    (c.write_digits-start.ensures.written ∙ ap (λ more. decimal c.args.number ++ more) (c.write_words-start.ensures.written
    ∙ ap (λ more. codes " committed " ++ more) (c.write_signed-start.ensures.written
    ∙ ap (λ n. signed_decimal n ++ drop c.write_byte-start.result c.write_byte-start.new.text) same
    ∙ ap (λ more. signed_decimal c.args.answer ++ more) c.write_byte-start.ensures.written))) refl (search rules) (search rules)
