use Rattle.sgt_rows.proofs.Entries.{merged}
use Rattle.sgt_rows.proofs.rows.Rows.database.Goals as goal

pub returns : goal.returns
returns c =
    merged c.updated.result c.self.inside.later.entries c.self.inside.first c.in_ok-later.later c.args.self c.in_ok-later.ensures
    c.self.view_is c.updated.ensures.values
