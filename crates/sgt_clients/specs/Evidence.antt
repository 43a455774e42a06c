-- The appends and reads at positions.
use Rattle.std.specs.Prelude.{ℕ, List, Option, Some, None}
use Rattle.sgt_appends.specs.declared.transaction.Operation.{Operation}
use Rattle.sgt_appends.specs.declared.transaction.Operation.TheVariants.{Append, Read}
use Rattle.sgt_clients.specs.declared.evidence.Put.{Put}

-- the key and the value, if the operation is an append
abbrev pub put_of : Option Operation → Option Put
put_of (Some (Append k value)) = Some (record { key = k; value = value })
put_of (Some (Read k values)) = None
put_of None = None

-- the key and the values, if the operation is a read
abbrev pub seen_of : Option Operation → Option (ℕ × List ℕ)
seen_of (Some (Read k values)) = Some (k, values.items)
seen_of (Some (Append k value)) = None
seen_of None = None
