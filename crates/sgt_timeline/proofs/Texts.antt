-- Texts that are written after one another.
use Rattle.std.proofs.Common.{◌≡◌, ℕ, List, ◌++◌, ap, ◌∙◌, append_assoc}
use Rattle.std.specs.Prelude.{Result, Ok, Err, OnOk}

-- a last text after those so far
pub after_one : {T E : Type 0} (r : Result T E) (old first second between new : List ℕ) → between ≡ old ++ first
    → OnOk r (new ≡ between ++ second) → OnOk r (new ≡ old ++ (first ++ second))
after_one (Ok x) old first second between new to_between to_new =
    to_new ∙ ap (λ l. l ++ second) to_between ∙ append_assoc old first second
after_one (Err e) old first second between new to_between to_new = tt
