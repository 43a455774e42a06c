use Rattle.sgt_appends.specs.Indexes.{position_of, IsFiled}
use Rattle.sgt_appends.proofs.append_index.AppendIndex.add_all.Given as goal

abbrev pub invariant-loop-position : goal.invariant-loop-position
invariant-loop-position l = IsFiled l.history l.transaction l.position (position_of l.self)
