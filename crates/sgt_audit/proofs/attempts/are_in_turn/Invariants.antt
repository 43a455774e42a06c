use Rattle.std.proofs.Common.{ℕ, ◌+◌, ◌<◌, List, slice_index}
use Rattle.sgt_model.specs.declared.entry.Entry.{Entry}
use Rattle.sgt_audit.specs.Lives.{AreLives}
use Rattle.sgt_audit.specs.Spans.{EndsBefore}
use Rattle.sgt_audit.proofs.attempts.are_in_turn.Given as goal

abbrev pub invariant-loop-k : goal.invariant-loop-k
invariant-loop-k l = (past : List Entry) → AreLives past l.lives → (j : ℕ) → j + 1 < l.k
    → EndsBefore past (slice_index l.attempts j) (slice_index l.attempts (j + 1))
