-- What a read of a key returns: the last value of its chain, else the committed one.
use Rattle.std.specs.Prelude.{◌≡◌, ℕ, ℤ, List, Option, Some, None}
use Rattle.std.specs.List.{last_or}
use Rattle.sgt_records.specs.declared.top.Top.{Top}
use Rattle.sgt_records.specs.declared.top.Top.TheVariants.{Pending, Settled, Nothing}

-- by the last of the chain and the committed value
abbrev pub top_from : Option (ℕ × Option ℤ) → Option ℤ → Top
top_from (Some w) below = Pending w.0 w.1
top_from None (Some v) = Settled v
top_from None None = Nothing

-- by the chain and the committed value
abbrev pub top_of : List (ℕ × Option ℤ) → Option ℤ → Top
top_of chain settled = top_from (last_or None chain) settled

-- what each result says of the last of the chain and of the committed value
abbrev pub IsTop : Top → Option (ℕ × Option ℤ) → Option ℤ → Type 0
IsTop (Pending t v) last settled = last ≡ Some (t, v)
IsTop (Settled v) last settled = (last ≡ None) × (settled ≡ Some v)
IsTop Nothing last settled = (last ≡ None) × (settled ≡ None)

-- the value read, if there is one: a pending removal leaves none
abbrev pub value_of_top : Top → Option ℤ
value_of_top (Pending t v) = v
value_of_top (Settled v) = Some v
value_of_top Nothing = None
