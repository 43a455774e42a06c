-- What a word and the items after it spell, if all are there.
use Rattle.std.specs.Prelude.{ℕ, ℤ, List, Option, option_and_then}
use Rattle.sgt_model.specs.declared.event.Event.{Event}
use Rattle.sgt_format.specs.EventLines.{of_transaction}

-- a word and a transaction
abbrev pub of_two : Option (List ℕ) → Option ℕ → Option Event
of_two word t = option_and_then (λ w. option_and_then (of_transaction w) t) word

-- a word, a procedure and arguments
abbrev pub of_three : {A : Type 0} → (List ℕ → ℕ → List ℤ → Option A) → Option (List ℕ) → Option ℕ → Option (List ℤ) → Option A
of_three call word p args = option_and_then (λ w. option_and_then (λ n. option_and_then (call w n) args) p) word
