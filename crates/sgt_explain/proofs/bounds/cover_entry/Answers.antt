use Rattle.std.proofs.Common.{rules, ◌≡◌, ◌<◌, ℕ, Some, length, subst}
use Rattle.std.specs.Prelude.{OnOk}
use Rattle.sgt_model.specs.Paths.{Member}
use Rattle.sgt_explain.specs.Indexes.{part_in}
use Rattle.sgt_explain.proofs.IndexSteps.{parts_covered}
use Rattle.sgt_explain.proofs.bounds.cover_entry.Goals as goal
use Rattle.sgt_explain.proofs.bounds.cover_entry.Goals.{in-Some+in_ok-cover+in_ok-cover-2, in_default}

pub returns-clause-part : goal.returns-clause-part
returns-clause-part c =
    let named : (u : ℕ) → part_in c.args.entry.now ≡ Some u → u < length c.match-part_of.firsts.items =
    λ u is. elim c.match-part_of.branch [
      | in-Some+in_ok-cover+in_ok-cover-2 w ↦ search rules
      | in_default w ↦ search rules
    ] in
    parts_covered c.cover_all.result c.args.entry.now (length c.match-part_of.firsts.items) (length c.cover_all.new.list.items)
    c.cover_all.ensures.no_less named
    (subst (λ fell. OnOk c.cover_all.result ((u : ℕ) → Member u fell → u < length c.cover_all.new.list.items)) c.fell.ensures.fell
    c.cover_all.ensures.long)
