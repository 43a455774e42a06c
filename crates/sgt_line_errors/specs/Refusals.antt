-- Texts that are refused.
use Rattle.std.specs.Prelude.{◌≢◌, ℕ, List}
use Rattle.sgt_format.specs.declared.errors.OpeningError.{OpeningError}
use Rattle.sgt_format.specs.declared.errors.OpeningError.TheVariants.{NoMemory}
use Rattle.sgt_format.specs.Openings.{Refuses}
use Rattle.sgt_format.specs.ProcedureLines.{RefusesProcedure}

-- the text has an error, and so spells no opening that allows at least this many live transactions
abbrev pub SpellsNoOpening : ℕ → List ℕ → Type 0
SpellsNoOpening least text = (error : OpeningError) × Refuses least text error × (error ≢ NoMemory)

-- the text has an error, and so spells no procedure
abbrev pub SpellsNoProcedure : ℕ → List ℕ → Type 0
SpellsNoProcedure number text = (error : OpeningError) × RefusesProcedure number text error × (error ≢ NoMemory)
