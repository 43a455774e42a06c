use Rattle.std.proofs.Common.{rules, ap, ◌∙◌}
use Rattle.sgt_access.specs.NumberLists.{contents}
use Rattle.sgt_access.proofs.NumberLists.{contents_made}
use Rattle.sgt_access.proofs.number_lists.empty_lists.Goals as goal

pub loop-preserved : goal.loop-preserved
loop-preserved c = record {
  long = search rules;
  capacity = search rules;
  empty = ap contents c.push_reserved.ensures.items ∙ contents_made _ _ _ c.loop.invariant.empty (search rules);
}
