use Rattle.std.proofs.Common.{◌≡◌, ◌↔◌, ◌⊎◌, ℕ, take}
use Rattle.sgt_appends.specs.Lists.{Has}
use Rattle.sgt_appends.specs.Lines.{has_pair}
use Rattle.sgt_appends.proofs.lines.note_values.Given as goal

abbrev pub invariant-loop-value : goal.invariant-loop-value
invariant-loop-value l =
    (k v : ℕ) → has_pair l.set k v ↔ (has_pair l.fn.set k v ⊎ ((l.key ≡ k) × Has (take l.value-index l.values) v))
