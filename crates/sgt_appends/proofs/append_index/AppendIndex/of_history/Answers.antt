use Rattle.std.proofs.Common.{rules, refl}
use Rattle.sgt_appends.specs.Indexes.{position_of}
use Rattle.sgt_appends.proofs.Filed.{filed_whole, index_once}
use Rattle.sgt_appends.proofs.append_index.AppendIndex.of_history.Goals as goal

pub returns-clause-once : goal.returns-clause-once
returns-clause-once c = (
  (λ some. index_once c.args.history.now (position_of c.loop-number.appends)
      (filed_whole c.args.history.now c.loop-number.number (position_of c.loop-number.appends) c.loop-number.invariant (search rules))),
  (λ once. refl),
)
