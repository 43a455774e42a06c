use Rattle.std.proofs.Common.{◌-◌, length}
use Rattle.sgt_timeline.proofs.notes.add_words.Given as goal

abbrev pub decreases-loop-start : goal.decreases-loop-start
decreases-loop-start l = length l.words - l.start
