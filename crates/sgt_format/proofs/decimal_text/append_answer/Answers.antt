use Rattle.std.proofs.Common.{ℕ, List, rules, refl, sym, ap, ◌≡◌, ◌∙◌, ◌∷◌, ◌++◌, drop, w64, to_z, of_z}
use lib.ListN.{replicate}
use Rattle.std.specs.Fmt.{signed_decimal}
use Rattle.sgt_format.proofs.Numerals.{from_bits}
use Rattle.sgt_format.proofs.Written.{adds_two}
use Rattle.sgt_format.proofs.decimal_text.append_answer.Goals as goal

pub returns-clause-ok : goal.returns-clause-ok
returns-clause-ok c =
    let same : to_z w64 (of_z w64 c.args.answer) ≡ c.args.answer = sym (from_bits c.args.answer (search rules)) in
    let following : List ℕ = drop 64 (replicate 96 0) in
    adds_two c.append_written.result c.args.lines.now.items c.write_byte-start.new.text _ _ following c.append_written.new.lines.items
    c.write_byte-start.result c.append_written.ensures.ok
    (c.write_byte-start.ensures.written ∙ ap (λ more. 32 ∷ more) (c.write_signed-start.ensures.written
    ∙ ap (λ n. signed_decimal n ++ following) same)) refl (search rules) (search rules)
