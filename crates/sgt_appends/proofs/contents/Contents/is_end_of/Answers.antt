use Rattle.std.proofs.Common.{rules, ◌≡◌, ◌++◌, [], sym, ap, ◌∙◌, append-nil}
use Rattle.sgt_appends.specs.Tables.{stands}
use Rattle.sgt_appends.proofs.contents.Contents.is_end_of.Goals as goal

pub returns-in-None : goal.returns-in-None
returns-in-None c =
    let none : stands c.args.self.now c.args.key ≡ [] = search rules in
    ((λ yes. (c.args.values.now, sym (append-nil c.args.values.now) ∙ ap (λ xs. c.args.values.now ++ xs) (sym none))), (λ it. search rules))
