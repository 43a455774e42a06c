use Rattle.std.proofs.Common.{◌≡◌, ◌≤◌, ◌-◌, length}
use Rattle.sgt_session.proofs.Merging.{Checked}
use Rattle.sgt_session.proofs.accounts.accounts.Given as goal

abbrev pub invariant-loop-p : goal.invariant-loop-p
invariant-loop-p g l = (l.p ≤ length l.history.entries) × (length l.at ≡ 64) × Checked l.history.entries l.sessions l.p l.at

abbrev pub decreases-loop-p : goal.decreases-loop-p
decreases-loop-p g l = length l.history.entries - l.p
