-- How a run over an input ends.
use Rattle.std.specs.Prelude.{ℕ, ⊤, Result, Ok, Err}
use Rattle.sgt_smallbank.specs.Accounts.{number_of}
use Rattle.sgt_format.specs.declared.errors.LineError.{LineError}
use Rattle.sgt_format.specs.declared.errors.LineError.TheVariants as line_error
use Rattle.sgt_format.specs.declared.errors.OpeningError.{OpeningError}
use Rattle.sgt_format.specs.declared.errors.OpeningError.TheVariants as opening_error
use Rattle.sgt_input.specs.declared.fault.Fault.{Fault}
use Rattle.sgt_input.specs.declared.fault.Fault.TheVariants as fault
use Rattle.sgt_input.specs.Lines.{Ending, AtEnd, AtLongLine, AtLimit}

-- how a run ends
abbrev pub End : Type 0
End = Result (Unit {0}) Fault

-- how it ends if the splitting into lines ends this way before line n
abbrev pub end_at : ℕ → Ending → End
end_at n AtEnd = Ok tt
end_at n AtLongLine = Err (fault.LongLine n)
end_at n AtLimit = Err fault.TooLong

-- the fault of line n if it spells nothing
abbrev pub fault_in : ℕ → LineError → Fault
fault_in n line_error.NotJson = fault.NotJson n
fault_in n line_error.BadLine = fault.BadLine n
fault_in n line_error.NoMemory = fault.NoMemory

-- the fault of line 1 if it is refused as an opening
abbrev pub fault_of_opening : OpeningError → Fault
fault_of_opening opening_error.NotJson = fault.NotJson 1
fault_of_opening opening_error.BadLine = fault.BadLine 1
fault_of_opening opening_error.BadLimits = fault.BadLimits
fault_of_opening (opening_error.BadOpening kind) = fault.BadOpening (number_of kind)
fault_of_opening (opening_error.ProcShape n place) = fault.ProcShape n place
fault_of_opening (opening_error.ProcFlaw n flaw) = fault.ProcFlaw n flaw
fault_of_opening opening_error.NoMemory = fault.NoMemory

-- there is no line 1: it is too long, or the input is empty
abbrev pub no_opening : Ending → End
no_opening AtEnd = Err fault.NoOpening
no_opening ending = end_at 1 ending

-- a fault of the input itself, not of its reader, its writer or the memory
abbrev pub IsOfInput : Fault → Type 0
IsOfInput fault.Reading = ⊥
IsOfInput fault.Writing = ⊥
IsOfInput fault.NoMemory = ⊥
IsOfInput _ = ⊤

-- the run ended well or with a fault of the input
abbrev pub IsExact : End → Type 0
IsExact (Ok _) = ⊤
IsExact (Err f) = IsOfInput f
