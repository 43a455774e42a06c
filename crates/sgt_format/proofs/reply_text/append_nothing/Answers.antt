use Rattle.std.proofs.Common.{ℕ, List, rules, refl, ap, ◌∙◌, ◌++◌, drop}
use lib.ListN.{replicate}
use Rattle.std.specs.Prelude.{codes}
use Rattle.sgt_format.specs.Decimals.{key_text}
use Rattle.sgt_format.proofs.Written.{adds_all_grouped}
use Rattle.sgt_format.proofs.reply_text.append_nothing.Goals as goal

pub returns-clause-ok : goal.returns-clause-ok
returns-clause-ok c =
    let following : List ℕ = drop 64 (replicate 96 0) in
    adds_all_grouped c.append_written.result c.args.lines.now.items c.write_words-start.new.text (codes "read ")
    (key_text c.args.key) (codes " none") (codes "\n")
    following c.append_written.new.lines.items c.write_words-start.result c.append_written.ensures.ok
    (c.write_words-start.ensures.written ∙ ap (λ more. codes "read " ++ more) (c.write_key-start.ensures.written
    ∙ ap (λ more. key_text c.args.key ++ more) c.write_words-end.ensures.written)) refl (search rules) (search rules)
