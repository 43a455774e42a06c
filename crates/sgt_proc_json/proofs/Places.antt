-- The indexes that a position stores.
use Rattle.std.proofs.Common.{◌≡◌, ap, ◌∙◌, ℕ, ◌≤◌, List, take, length}
use Rattle.std.specs.Prelude.{min}
use Rattle.std.proofs.lemmas.List.{take_all, take_min}
use Rattle.std.proofs.Math.Nat.{min_comm}

-- as many as there are, up to 127, are the first 127
pub kept_all : (n : ℕ) (all xs : List ℕ) (kept i : ℕ) → xs ≡ all → n ≡ length all → kept ≡ min n 127 → length (take kept xs) ≤ i
    → take i (take kept xs) ≡ take 127 all
kept_all n all xs kept i same count is end =
    take_all i (take kept xs) end ∙ (ap (take kept) same
    ∙ (ap (λ k. take k all) (is ∙ (ap (λ m. min m 127) count ∙ min_comm (length all) 127)) ∙ take_min 127 all))
