use Rattle.std.proofs.Common.{◌≡◌, subst, arith}
use Rattle.std.specs.Prelude.{length}
use Rattle.std.specs.BTreeMap.{get}
use Rattle.sgt_classes.specs.FirstAccesses.{AreConflicts, pair_cmp}
use Rattle.sgt_classes.proofs.conflicts.Conflicts.report_all.Goals as goal

pub returns : goal.returns
returns c =
    let q = c.args.operations.now in
    let whole : c.loop-place.place ≡ length q = omega (arith, c.loop-place-test.false, c.loop-place.auto.place-end) in
    subst (λ n. AreConflicts q n n c.loop-place.self.edges.items (get pair_cmp c.loop-place.self.reported)) whole
    c.loop-place.invariant.conflicts
