-- What the fields of an error say to C.
use Rattle.std.specs.Prelude.{◌≡◌, take}
use Rattle.sgt_smallbank.specs.Accounts.{number_of}
use Rattle.sgt_proc.specs.Flaws.{number}
use Rattle.sgt_format.specs.declared.errors.OpeningError.{OpeningError}
use Rattle.sgt_format.specs.declared.errors.OpeningError.TheVariants.{NotJson, BadLine, BadLimits, BadOpening, ProcShape, ProcFlaw, NoMemory}
use Rattle.sgt_c.specs.declared.fault_struct.SgtFault.{SgtFault}

-- the kind, which is the status, and the fields that belong to it
abbrev pub HoldsFault : SgtFault → OpeningError → Type 0
HoldsFault s NotJson = s.kind ≡ 16
HoldsFault s BadLine = s.kind ≡ 17
HoldsFault s BadLimits = s.kind ≡ 18
HoldsFault s (BadOpening fault) = (s.kind ≡ 19) × (s.number ≡ number_of fault)
HoldsFault s (ProcShape procedure place) = (s.kind ≡ 20) × (s.procedure ≡ procedure) × (take s.depth s.place ≡ take 128 place)
HoldsFault s (ProcFlaw procedure flaw) = (s.kind ≡ 21) × (s.procedure ≡ procedure) × (s.number ≡ number flaw)
HoldsFault s NoMemory = s.kind ≡ 1
