use Rattle.std.proofs.Common.{◌≡◌, ℕ, take}
use Rattle.std.specs.BTreeSet.{contains}
use Rattle.sgt_classes.specs.FirstAccesses.{pair_cmp}
use Rattle.sgt_check.specs.GraphText.{leads}
use Rattle.sgt_check.proofs.graph_text.ends.Given as goal

abbrev pub invariant-loop-edge : goal.invariant-loop-edge
invariant-loop-edge l = (t u : ℕ) → contains pair_cmp l.red (t, u) ≡ leads (take l.edge-index l.edges) t u
