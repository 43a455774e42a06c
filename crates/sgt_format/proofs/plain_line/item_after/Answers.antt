use Rattle.std.proofs.Common.{◌∷◌, [], ◌++◌, inl, refl, ap, ◌∙◌}
use Rattle.sgt_format.proofs.plain_line.item_after.Goals as goal

pub returns-in-Some : goal.returns-in-Some
returns-in-Some c = (32 ∷ [], (inl refl, tt), c.in_ok-rest.ensures ∙ ap (λ rest. c.args.words.now ++ rest) c.in-Some.ensures)
