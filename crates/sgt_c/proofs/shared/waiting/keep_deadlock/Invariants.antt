use Rattle.std.proofs.Common.{◌≡◌, Bool, List, length}
use Rattle.sgt_c.specs.SelfWaits.{IsDeadlock, IsWithin, count_in}
use Rattle.sgt_c.proofs.shared.waiting.keep_deadlock.Given as goal

abbrev pub invariant-loop-i : goal.invariant-loop-i
invariant-loop-i l = record {
  long : length l.set ≡ length l.notes;
  largest : (d : List Bool) → length d ≡ length l.notes → IsDeadlock l.notes l.cuts d → IsWithin d l.set;
}

abbrev pub decreases-loop-i : goal.decreases-loop-i
decreases-loop-i l = count_in l.set
