use Rattle.std.proofs.Common.{◌≡◌, ◌<◌, ℕ, true, false, get_or}
use Rattle.sgt_c.proofs.shared.waiting.are_all.Given as goal

abbrev pub invariant-loop-in_set : goal.invariant-loop-in_set
invariant-loop-in_set l = (j : ℕ) → j < l.in_set-index → get_or l.set j false ≡ true
