use Rattle.std.proofs.Common.{rules, ◌∙◌, ap, Some, w64}
use Rattle.std.proofs.lemmas.Int.{to_z-of_z}
use Rattle.sgt_model.specs.Databases.{contents_of}
use Rattle.sgt_rows.proofs.Entries.{found_later, found_first}
use Rattle.sgt_rows.proofs.rows.Rows.get.Goals as goal

pub returns-in-Some : goal.returns-in-Some
returns-in-Some c =
    ap (λ v. Some v) (to_z-of_z w64 c.in-Some.value.now (search rules))
    ∙ (found_later c.self.inside.later c.self.inside.first c.args.key c.in-Some.value.now c.in-Some.ensures.value
    ∙ ap (λ rows. contents_of rows c.args.key) c.self.view_is)

pub returns-in-None : goal.returns-in-None
returns-in-None c =
    c.get-in-None.ensures ∙ (found_first c.self.inside.later c.self.inside.first c.args.key c.in-None.ensures.value
    ∙ ap (λ rows. contents_of rows c.args.key) c.self.view_is)
