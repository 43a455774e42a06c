use Rattle.std.proofs.Common.{ℕ, ◌+◌, ◌<◌}
use Rattle.sgt_session.specs.Receipts.{IsReceiptAt}
use Rattle.sgt_session.proofs.receipts.Receipts.run_at.Given as goal

abbrev pub invariant-loop-k : goal.invariant-loop-k
invariant-loop-k l = (j : ℕ) → j < l.k → IsReceiptAt l.self.receipts (l.place + j) l.history.entries (l.number + j)
