use Rattle.std.proofs.Common.{ℕ, List, rules, refl, ap, ◌∙◌, ◌++◌, drop, arith}
use lib.ListN.{replicate}
use Rattle.std.specs.Fmt.{decimal}
use Rattle.std.proofs.lemmas.Fmt.{length-decimal-le}
use Rattle.sgt_format.proofs.Written.{adds_three}
use Rattle.sgt_format.proofs.decimal_text.append_number_line.Goals as goal

pub write_digits-start-requires : goal.write_digits-start-requires
write_digits-start-requires c = (omega (arith, length-decimal-le 20 c.args.number (omega arith) (omega arith) (omega arith)), omega arith)

pub write_words-start-requires : goal.write_words-start-requires
write_words-start-requires c = (omega (arith, length-decimal-le 20 c.args.number (omega arith) (omega arith) (omega arith)), omega arith)

pub returns-clause-ok : goal.returns-clause-ok
returns-clause-ok c =
    let following : List ℕ = drop 64 (replicate 96 0) in
    adds_three c.append_written.result c.args.lines.now.items c.write_words-start.new.text _ _ _ following
    c.append_written.new.lines.items c.write_words-start.result
    c.append_written.ensures.ok
    (c.write_words-start.ensures.written ∙ ap (λ more. c.args.words.now ++ more)
    (c.write_digits-start.ensures.written ∙ ap (λ more. decimal c.args.number ++ more) c.write_byte-start.ensures.written))
    refl (search rules) (search rules)
