use Rattle.std.proofs.Common.{ℕ, List, rules, refl, sym, ap, ◌≡◌, ◌∙◌, ◌++◌, drop, w64, to_z, of_z}
use lib.ListN.{replicate}
use Rattle.std.specs.Prelude.{codes}
use Rattle.sgt_format.specs.Decimals.{record_text}
use Rattle.sgt_format.proofs.Numerals.{from_bits}
use Rattle.sgt_format.proofs.Written.{adds_grouped}
use Rattle.sgt_format.proofs.reply_text.append_put.Goals as goal

pub returns-clause-ok : goal.returns-clause-ok
returns-clause-ok c =
    let same : to_z w64 (of_z w64 c.args.value) ≡ c.args.value = sym (from_bits c.args.value (search rules)) in
    let following : List ℕ = drop 64 (replicate 96 0) in
    adds_grouped c.append_written.result c.args.lines.now.items c.write_words-start.new.text (codes "wrote ")
    (record_text c.args.key c.args.value) (codes "\n") following c.append_written.new.lines.items c.write_words-start.result
    c.append_written.ensures.ok
    (c.write_words-start.ensures.written ∙ ap (λ more. codes "wrote " ++ more) (c.write_record-start.ensures.written
    ∙ ap (λ n. record_text c.args.key n ++ drop c.write_byte-start.result c.write_byte-start.new.text) same
    ∙ ap (λ more. record_text c.args.key c.args.value ++ more) c.write_byte-start.ensures.written)) refl (search rules) (search rules)
