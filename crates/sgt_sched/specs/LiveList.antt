-- The live transactions with the progress of each, as a list.
use Rattle.std.specs.Prelude.{ℕ, ℤ, Bool, not, cond, nat_eq, List, [], ◌∷◌, map, filter, Option}
use Rattle.sgt_model.specs.Syntax.{ProcedureText, empty}
use Rattle.sgt_model.specs.Left.{left_at_start, after_look, after_store}
use Rattle.sgt_sched.specs.LiveProgress.{Progress}

-- their numbers
abbrev pub numbers : List (ℕ × Progress) → List ℕ
numbers live = map (λ (r : ℕ × Progress). r.0) live

-- it is number t
abbrev pub has_number : ℕ → ℕ × Progress → Bool
has_number t r = nat_eq r.0 t

-- the progress of a procedure that was just started
abbrev pub started : ℕ → ProcedureText → List ℤ → Progress
started procedure program args = record { procedure = procedure; cursor = (program, left_at_start program args) }

-- the progress of t
abbrev pub progress_at : List (ℕ × Progress) → ℕ → Progress
progress_at [] t = started 0 (record { args = 0; body = empty }) []
progress_at (r ∷ rest) t = cond (nat_eq r.0 t) r.1 (progress_at rest t)

-- a read returned this
abbrev pub with_look : Option ℤ → Progress → Progress
with_look value c = record { procedure = c.procedure; cursor = (c.cursor.0, after_look value c.cursor.1) }

-- a write was made
abbrev pub with_store : Progress → Progress
with_store c = record { procedure = c.procedure; cursor = (c.cursor.0, after_store c.cursor.1) }

-- t's progress is changed
abbrev pub changed : ℕ → (Progress → Progress) → List (ℕ × Progress) → List (ℕ × Progress)
changed t change [] = []
changed t change (r ∷ rest) = cond (nat_eq r.0 t) ((r.0, change r.1) ∷ rest) (r ∷ changed t change rest)

-- the others
abbrev pub others_live : ℕ → List (ℕ × Progress) → List (ℕ × Progress)
others_live t live = filter (λ (r : ℕ × Progress). not (has_number t r)) live
