-- The contents of the three tables, apart and together.
use Rattle.std.specs.Prelude.{◌≡◌, ℕ, false, nat_eq, None}
use Rattle.std.specs.Option.{option_or}
use Rattle.sgt_model.specs.Contents.{Key, Contents}

-- only keys of the table have a value
abbrev pub IsOfTable : ℕ → Contents → Type 0
IsOfTable t m = (k : Key) → nat_eq t k.0 ≡ false → m k ≡ None

-- the customers, the savings and the checkings together
abbrev pub joined : Contents → Contents → Contents → Contents
joined customers savings checkings k = option_or (checkings k) (option_or (savings k) (customers k))
