use Rattle.std.proofs.Common.{refl, sym, ◌∙◌}
use Rattle.sgt_graph.proofs.RowSteps.{zero_rows}
use Rattle.sgt_graph.proofs.relation.Relation.empty.Goals as goal

pub invariant_of-result : goal.invariant_of-result
invariant_of-result c = record { size = refl; transposed = λ i j. zero_rows 32 j i ∙ sym (zero_rows 32 i j) }

pub returns : goal.returns
returns c = zero_rows 32
