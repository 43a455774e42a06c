-- The errors of the text of an input.
use Rattle.std.specs.Prelude.{◌≡◌, ⊤}
use Rattle.sgt_check.specs.declared.fault.CheckFault.TheVariants.{NoMemory}
use Rattle.sgt_clients.specs.declared.fault.ClientsFault.{ClientsFault}
use Rattle.sgt_clients.specs.declared.fault.ClientsFault.TheVariants as fault

-- an error that no read or write made, nor the length of the input
abbrev pub IsOwn : ClientsFault → Type 0
IsOwn (fault.Check f) = f ≡ NoMemory
IsOwn f = ⊤
