-- The texts of an engine's procedures.
use Rattle.std.specs.Prelude.{◌≡◌, ◌≤◌, ℕ, List, length, Option, Some, None, slice_get}
use Rattle.std.specs.Global.{Vec}
use Rattle.sgt_model.specs.Syntax.{ProcedureText}
use Rattle.sgt_format.specs.ProcedureLines.{SpellsProcedure}
use Rattle.sgt_c.specs.declared.held.Held.{Held}
use Rattle.sgt_c.specs.BufferTexts.{IsWritten}

-- a line that spells the procedure of this number, if there is one
abbrev pub SpellsAt : List ProcedureText → ℕ → Option (Vec ℕ) → Type 0
SpellsAt procedures number None = length procedures ≤ number
SpellsAt procedures number (Some line) = (p : ProcedureText) × (slice_get procedures number ≡ Some p) × SpellsProcedure line.items p

-- a line that spells the procedure of this number is returned
abbrev pub ReturnsProcedure : Option Held → ℕ → List ℕ → List ℕ → ℕ → Type 0
ReturnsProcedure None number before after reported = ⊥
ReturnsProcedure (Some h) number before after reported = (p : ProcedureText) × (slice_get h.engine.procedures number ≡ Some p)
    × (line : List ℕ) × SpellsProcedure line p × IsWritten line before after reported

-- there is an engine, and none of its procedures has this number
abbrev pub HasNoProcedure : Option Held → ℕ → Type 0
HasNoProcedure None number = ⊥
HasNoProcedure (Some h) number = length h.engine.procedures ≤ number
