use Rattle.std.proofs.Common.{◌≡◌, ℕ, ◌<◌, ◌≤◌, None, length}
use Rattle.sgt_model.specs.Progress.{call_of}
use Rattle.sgt_explain.specs.Places.{entries_before}
use Rattle.sgt_explain.specs.Calls.{placed_call}
use Rattle.sgt_explain.proofs.call.call_before.Given as goal

abbrev pub invariant-loop-at : goal.invariant-loop-at
invariant-loop-at l = record {
  within : l.at ≤ length l.history;
  none_since : call_of (entries_before l.history l.fn.place) l.t ≡ call_of (entries_before l.history l.at) l.t;
  none : (n : ℕ) → l.at ≤ n → n < l.fn.place → placed_call l.history l.t n ≡ None;
}

abbrev pub decreases-loop-at : goal.decreases-loop-at
decreases-loop-at l = l.at
