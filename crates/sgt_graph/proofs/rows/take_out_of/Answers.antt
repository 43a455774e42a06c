use Rattle.std.proofs.Common.{rules, ◌≡◌, ℕ, false, sym, subst, nat_eq, slice_set}
use Rattle.std.specs.Prelude.{◌&&◌, not}
use Rattle.sgt_cycle.specs.Indices.{is_set, is_bit}
use Rattle.sgt_graph.proofs.RowSteps.{lacking_all}
use Rattle.sgt_graph.proofs.rows.take_out_of.Goals as goal

pub returns : goal.returns
returns c i j =
    let none : (i : ℕ) → is_set c.loop-row.left i ≡ false = search rules in
    subst (λ (p : ℕ). is_bit (slice_set c.loop-row.rows p 0) i
    j ≡ (is_bit c.args.rows.now i j && (not (nat_eq i c.args.index) && not (nat_eq j c.args.index)))) (sym c.from.ensures)
    (lacking_all c.args.of c.args.index c.args.rows.now c.loop-row.left c.loop-row.rows c.loop-row.invariant none c.requires.low
    c.requires.all i j)
