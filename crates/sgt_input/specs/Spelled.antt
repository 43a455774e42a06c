-- Lines that are read one after another, up to the first bad one. The reader of a line takes its number and its bytes.
use Rattle.std.specs.Prelude.{ℕ, ◌+◌, List, [], ◌∷◌, Result, Ok, Err}
use Rattle.sgt_format.specs.declared.errors.LineError.{LineError}
use Rattle.sgt_input.specs.declared.fault.Fault.{Fault}
use Rattle.sgt_input.specs.Lines.{Ending}
use Rattle.sgt_input.specs.Ends.{End, end_at, fault_in}

-- what line n spells, given the result of reading it
abbrev pub at_line : {A : Type 0} → ℕ → Result A LineError → Result A Fault
at_line n (Ok x) = Ok x
at_line n (Err error) = Err (fault_in n error)

-- what a line spells, before what the later lines spell; after a bad line no line counts
abbrev pub and_later : {A : Type 0} → Result A Fault → List A → List A
and_later (Ok x) later = x ∷ later
and_later (Err fault) later = []

-- what the lines from number n on spell, up to the first bad one
abbrev pub spelled : {A : Type 0} → (ℕ → List ℕ → Result A Fault) → ℕ → List (List ℕ) → List A
spelled read n [] = []
spelled read n (l ∷ ls) = and_later (read n l) (spelled read (n + 1) ls)

-- the end at a bad line, else a later end
abbrev pub or_later : {A : Type 0} → Result A Fault → End → End
or_later (Ok x) later = later
or_later (Err fault) later = Err fault

-- how reading the lines from number n on ends: at the first bad one, or where the lines end
abbrev pub end_of : {A : Type 0} → (ℕ → List ℕ → Result A Fault) → ℕ → List (List ℕ) → Ending → End
end_of read n [] ending = end_at n ending
end_of read n (l ∷ ls) ending = or_later (read n l) (end_of read (n + 1) ls ending)
