use Rattle.sgt_appends.specs.Indexes.{position_of, IsFiled}
use Rattle.sgt_appends.proofs.append_index.AppendIndex.of_history.Given as goal

abbrev pub invariant-loop-number : goal.invariant-loop-number
invariant-loop-number l = IsFiled l.history l.number 0 (position_of l.appends)
