use Rattle.std.proofs.Common.{◌≡◌, ◌⊎◌, ◌<◌, ℕ, true, false, Some, get_or}
use Rattle.std.specs.Prelude.{slice_get}
use Rattle.sgt_c.specs.declared.shared.waiting.SgtNote.{SgtNote}
use Rattle.sgt_c.proofs.shared.waiting.concerns.Given as goal

abbrev pub invariant-loop-i : goal.invariant-loop-i
invariant-loop-i l = (j : ℕ) (n : SgtNote) → j < l.i → slice_get l.notes j ≡ Some n → get_or l.set j false ≡ true
    → ((l.is_cut ≡ true) ⊎ (n.thread ≡ l.thread)) → ⊥
