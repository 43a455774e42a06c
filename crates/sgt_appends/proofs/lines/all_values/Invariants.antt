use Rattle.std.proofs.Common.{◌↔◌, ℕ, take}
use Rattle.sgt_appends.specs.Lists.{Has}
use Rattle.sgt_appends.specs.Lines.{line_in, keys_in, values_in, has_pair}
use Rattle.sgt_appends.proofs.lines.all_values.Given as goal

abbrev pub invariant-loop-key : goal.invariant-loop-key
invariant-loop-key l =
    (k v : ℕ) → has_pair l.set k v ↔ (Has (take l.key-index (keys_in l.lines)) k × Has (values_in (line_in l.lines) k) v)
