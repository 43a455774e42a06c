-- Which procedures trees spell, one after another, and the error of the first that spells none.
use Rattle.std.specs.Prelude.{◌≡◌, ℕ, zero, suc, List, [], ◌∷◌, Ok, Err, ⊤}
use Rattle.serde_json.specs.Data.{Data}
use Rattle.sgt_model.specs.Syntax.{ProcedureText}
use Rattle.sgt_proc.specs.declared.flaw.Flaw.{Flaw}
use Rattle.sgt_proc.specs.Flaws.{IsFlawless, IsLeastFlaw}
use Rattle.sgt_proc_json.specs.Readings.{reading}

-- a tree spells a procedure without a flaw
abbrev pub IsProcedure : Data → ProcedureText → Type 0
IsProcedure tree p = (reading tree ≡ Ok p) × IsFlawless p

-- each tree spells its procedure
abbrev pub AreProcedures : List Data → List ProcedureText → Type 0
AreProcedures [] [] = ⊤
AreProcedures [] (p ∷ programs) = ⊥
AreProcedures (tree ∷ trees) [] = ⊥
AreProcedures (tree ∷ trees) (p ∷ programs) = IsProcedure tree p × AreProcedures trees programs

-- a tree spells no procedure, and its first shape error is at this position
abbrev pub HasShapeError : List ℕ → Data → Type 0
HasShapeError place tree = reading tree ≡ Err place

-- a tree spells a procedure whose least flaw is this one
abbrev pub HasLeastFlaw : Flaw → Data → Type 0
HasLeastFlaw flaw tree = (p : ProcedureText) × (reading tree ≡ Ok p) × IsLeastFlaw flaw p

-- the first n trees spell procedures without a flaw, and the next one has this property
abbrev pub NextIs : (Data → Type 0) → ℕ → List Data → Type 0
NextIs so n [] = ⊥
NextIs so zero (tree ∷ trees) = so tree
NextIs so (suc n) (tree ∷ trees) = ((p : ProcedureText) × IsProcedure tree p) × NextIs so n trees
