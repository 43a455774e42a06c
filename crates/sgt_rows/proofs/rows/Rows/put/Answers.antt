use Rattle.std.proofs.Common.{◌∙◌, ap, w64}
use Rattle.std.proofs.lemmas.Int.{to_z-of_z}
use Rattle.sgt_model.specs.Contents.{put_in}
use Rattle.sgt_model.specs.Databases.{contents_of}
use Rattle.sgt_rows.proofs.Entries.{later_put, values_put}
use Rattle.sgt_rows.proofs.rows.Rows.put.Goals as goal

pub invariant_of-self-in_ok-insert : goal.invariant_of-self-in_ok-insert
invariant_of-self-in_ok-insert c =
    values_put c.self.inside.later c.insert.new.self c.self.inside.first c.args.key _ c.args.value c.in_ok-insert.ensures.updates
    (to_z-of_z w64 c.args.value c.ranges.value) c.requires c.self.invariant

pub returns-in_ok-insert-clause-put : goal.returns-in_ok-insert-clause-put
returns-in_ok-insert-clause-put c k =
    later_put c.self.inside.later c.insert.new.self c.self.inside.first c.args.key _ c.args.value c.in_ok-insert.ensures.updates
    (to_z-of_z w64 c.args.value c.ranges.value) k
    ∙ ap (λ rows. put_in (contents_of rows) c.args.key c.args.value k) c.self.view_is
