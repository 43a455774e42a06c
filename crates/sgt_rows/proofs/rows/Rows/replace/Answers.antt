use Rattle.std.proofs.Common.{sym, ◌∙◌, ap, w64}
use Rattle.std.proofs.lemmas.Int.{to_z-of_z}
use Rattle.std.specs.Option.{option_or}
use Rattle.sgt_model.specs.Contents.{put_in}
use Rattle.sgt_model.specs.Databases.{contents_of}
use Rattle.sgt_rows.proofs.Entries.{contents-append, lookup_contents, later_put, values_put}
use Rattle.sgt_rows.proofs.rows.Rows.replace.Goals as goal

pub invariant_of-self-2 : goal.invariant_of-self-2
invariant_of-self-2 c =
    values_put c.self.inside.later c.insert.new.self c.self.inside.first c.args.key _ c.args.value c.in_ok-later.ensures.updates
    (to_z-of_z w64 c.args.value c.ranges.value) c.requires c.self.invariant

pub returns-clause-put : goal.returns-clause-put
returns-clause-put c k =
    later_put c.self.inside.later c.insert.new.self c.self.inside.first c.args.key _ c.args.value c.in_ok-later.ensures.updates
    (to_z-of_z w64 c.args.value c.ranges.value) k
    ∙ ap (λ rows. put_in (contents_of rows) c.args.key c.args.value k) c.self.view_is

pub returns-clause-before : goal.returns-clause-before
returns-clause-before c =
    c.or.ensures
    ∙ ap (λ o. option_or o c.get-first.result) (c.in_ok-later.ensures.old ∙ lookup_contents c.self.inside.later.entries c.args.key)
    ∙ ap (λ o. option_or (contents_of c.self.inside.later.entries c.args.key) o) c.get-first.ensures
    ∙ sym (contents-append c.self.inside.later.entries c.self.inside.first c.args.key)
    ∙ ap (λ rows. contents_of rows c.args.key) c.self.view_is
