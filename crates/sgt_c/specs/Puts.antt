-- What is added to the engine in a handle before its first event.
use Rattle.std.specs.Prelude.{◌≡◌, ◌≢◌, ◌≤◌, ◌<◌, ℕ, List, [], length, map, take, Option, Some, None, slice_get}
use Rattle.std.specs.List.{All}
use Rattle.sgt_model.specs.Databases.{contents_of}
use Rattle.sgt_model.specs.Syntax.{ProcedureText}
use Rattle.sgt_engine.specs.EngineView.{EngineView}
use Rattle.sgt_engine.specs.Puts.{PutsRows, IsTaken, with_procedure}
use Rattle.sgt_format.specs.ProcedureLines.{SpellsProcedure, RefusesProcedure}
use Rattle.sgt_format.specs.declared.errors.OpeningError.{OpeningError}
use Rattle.sgt_c.specs.declared.fault_struct.SgtFault.{SgtFault}
use Rattle.sgt_c.specs.declared.held.Held.{Held}
use Rattle.sgt_c.specs.declared.procedures.Unadded.{Unadded}
use Rattle.sgt_c.specs.declared.procedures.Unadded.TheVariants.{Begun, TooMany, Refused}
use Rattle.sgt_c.specs.declared.row_struct.SgtRow.{SgtRow}
use Rattle.sgt_c.specs.FaultStructs.{HoldsFault}
use Rattle.sgt_c.specs.Rows.{IsRow, row_of}

-- the rows before this one are in their ranges, and this one is not
pub record IsFirstBad (rows : List SgtRow) (index : ℕ) : Type 0 where
  pub row : SgtRow
  pub at : slice_get rows index ≡ Some row
  pub before : All IsRow (take index rows)
  pub bad : ¬ IsRow row

-- there is an engine, and it has a history
abbrev pub HasBegun : Option Held → Type 0
HasBegun None = ⊥
HasBegun (Some h) = h.engine.past ≢ []

-- the rows are new and are added to the initial database; nothing else of the engine changes
abbrev pub Put : Option Held → List SgtRow → Option Held → Type 0
Put None rows new = ⊥
Put (Some h) rows None = ⊥
Put (Some h) rows (Some h') = PutsRows h.engine (map row_of rows) h'.engine × (h'.part ≡ h.part)

-- the rows before this one are new, and after them its key has a value
abbrev pub IsTakenIn : Option Held → List SgtRow → ℕ → Type 0
IsTakenIn None rows index = ⊥
IsTakenIn (Some h) rows index = IsTaken (contents_of h.engine.opening) (map row_of rows) index

-- the engine has no history, and the procedure that the text spells is added after its others, by this number; nothing
-- else changes
pub record IsAdded (h : Held) (text : List ℕ) (h' : Held) (n : ℕ) : Type 0 where
  pub none : h.engine.past ≡ []
  pub procedure : ProcedureText
  pub spelled : SpellsProcedure text procedure
  pub added : h'.engine ≡ with_procedure procedure h.engine
  pub number : n ≡ length h.engine.procedures
  pub free : n < 65535
  pub part : h'.part ≡ h.part

-- the same for the content of a handle
abbrev pub Added : Option Held → List ℕ → Option Held → ℕ → Type 0
Added None text new number = ⊥
Added (Some h) text None number = ⊥
Added (Some h) text (Some h') number = IsAdded h text h' number

-- why none is added: there is a history; or else no number is left; or else the text spells none or an allocation
-- failed
abbrev pub IsRefusal : EngineView → List ℕ → Unadded → Type 0
IsRefusal e text Begun = e.past ≢ []
IsRefusal e text TooMany = (e.past ≡ []) × (65535 ≤ length e.procedures)
IsRefusal e text (Refused error) = (e.past ≡ []) × (length e.procedures < 65535) × RefusesProcedure (length e.procedures) text error

-- there is an engine without a history, and it has no number left for a procedure
abbrev pub HasNoNumber : Option Held → Type 0
HasNoNumber None = ⊥
HasNoNumber (Some h) = (h.engine.past ≡ []) × (65535 ≤ length h.engine.procedures)

-- the text spells no procedure, for the reason that is returned with the number that it was to get
abbrev pub IsTextRefused : Option Held → List ℕ → SgtFault → Type 0
IsTextRefused None text reported = ⊥
IsTextRefused (Some h) text reported = (e : OpeningError) × RefusesProcedure (length h.engine.procedures) text e × HoldsFault reported e
