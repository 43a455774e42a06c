use Rattle.std.proofs.Common.{◌≡◌, ℕ, List, true, sym, subst, refl}
use Rattle.sgt_cycle.specs.Indices.{is_bit, indices}
use Rattle.sgt_graph.proofs.Insertion.{no_path}
use Rattle.sgt_graph.proofs.Placed.{member_index}
use Rattle.sgt_graph.proofs.RowSteps.{leads_reach, low_index}
use Rattle.sgt_graph.proofs.BitSteps.{path_low}
use Rattle.sgt_graph.proofs.bit_graph.BitGraph.cycle.Goals as goal

pub tids_at-requires-clause-low : goal.tids_at-requires-clause-low
tids_at-requires-clause-low c i m =
    path_low c.self.inside.taken c.self.inside.tids c.self.inside.pairs c.self.inside.reached c.self.invariant c.args.index c.args.from
    c.in-Some.cycle c.requires.low (rw c.rows.ensures at c.in-Some.ensures.some) i (rw c.as_slice.ensures at m)

pub unreachable-requires : goal.unreachable-requires
unreachable-requires c =
    let (x, row, there) = c.requires.reached in
    let reached : is_bit c.self.inside.reached c.args.index x ≡ true =
    subst (λ (v : ℕ × List ℕ × List ℕ × List ℕ). is_bit v.3 c.args.index x ≡ true) (sym c.self.view_is) row in
    no_path (is_bit c.self.inside.pairs) c.args.index (indices c.args.from) (rw c.rows.ensures at c.in-None.ensures.none refl) x
    (member_index 32 c.args.from x (low_index c.args.from x c.ranges.from.fits there) there)
    (leads_reach c.self.inside.pairs c.args.index x (c.self.invariant.closure.leads c.args.index x reached))
