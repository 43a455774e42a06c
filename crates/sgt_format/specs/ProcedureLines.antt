-- Which procedure a line spells, and why it spells none.
use Rattle.std.specs.Prelude.{◌≡◌, ⊤, ℕ, List, Some, None}
use Rattle.serde_json.specs.Data.{Data}
use Rattle.sgt_model.specs.Syntax.{ProcedureText}
use Rattle.sgt_format.specs.Openings.{IsRefusedAs}
use Rattle.sgt_format.specs.Procedures.{IsProcedure}
use Rattle.sgt_format.specs.Trees.{tree_of}
use Rattle.sgt_format.specs.declared.errors.OpeningError.{OpeningError}
use Rattle.sgt_format.specs.declared.errors.OpeningError.TheVariants.{NotJson, NoMemory}

-- the line spells the procedure, which has no flaw
abbrev pub SpellsProcedure : List ℕ → ProcedureText → Type 0
SpellsProcedure line p = (tree : Data) × (tree_of line ≡ Some tree) × IsProcedure tree p

-- why the line spells no procedure, under this number: it is not JSON, or its tree is refused. Reading it may also run
-- out of memory
abbrev pub RefusesProcedure : ℕ → List ℕ → OpeningError → Type 0
RefusesProcedure number line NotJson = tree_of line ≡ None
RefusesProcedure number line NoMemory = ⊤
RefusesProcedure number line error = (tree : Data) × (tree_of line ≡ Some tree) × IsRefusedAs number tree error
