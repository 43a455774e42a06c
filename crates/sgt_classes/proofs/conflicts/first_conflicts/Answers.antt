use Rattle.std.proofs.Common.{subst}
use Rattle.std.specs.Prelude.{length}
use Rattle.std.specs.BTreeMap.{get}
use Rattle.sgt_classes.specs.FirstAccesses.{AreConflicts, pair_cmp}
use Rattle.sgt_classes.proofs.FirstConflicts.{first_conflicts_of}
use Rattle.sgt_classes.proofs.conflicts.first_conflicts.Goals as goal

pub returns : goal.returns
returns c =
    let h = c.args.history.now in
    let q = c.in_ok-projection.projection.items in
    let es = c.in_ok-conflicts.conflicts.edges.items in
    let pairs = get pair_cmp c.in_ok-conflicts.conflicts.reported in
    first_conflicts_of h q (length q) es pairs c.in_ok-projection.ensures.projection
    (subst (λ l. AreConflicts l (length l) (length l) es pairs) c.as_slice.ensures.value c.in_ok-conflicts.ensures)
