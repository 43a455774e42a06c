-- The line of a fault.
use Rattle.std.specs.Prelude.{ℕ, Option, None, Some}
use Rattle.sgt_input.specs.declared.fault.Fault.{Fault}
use Rattle.sgt_input.specs.declared.fault.Fault.TheVariants as fault

-- the number of the faulty line, from 1; or none, if the fault's own line says all
abbrev pub line_of : Fault → Option ℕ
line_of (fault.NotJson n) = Some n
line_of (fault.BadLine n) = Some n
line_of (fault.BadRecord n) = Some n
line_of (fault.LongLine n) = Some n
line_of fault.NoOpening = Some 1
line_of fault.BadLimits = Some 1
line_of (fault.BadOpening _) = Some 1
line_of (fault.ProcShape _ _) = Some 1
line_of (fault.ProcFlaw _ _) = Some 1
line_of _ = None
