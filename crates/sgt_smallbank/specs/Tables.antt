-- The records of SmallBank, by table and number.
use Rattle.std.specs.Prelude.{ℤ}
use Rattle.sgt_model.specs.Contents.{Key}

-- table 0 has the customer of a name
abbrev pub account : ℤ → Key
account name = (0, name)

-- table 1 has the saving of a customer
abbrev pub saving : ℤ → Key
saving customer = (1, customer)

-- and table 2 the checking of a customer
abbrev pub checking : ℤ → Key
checking customer = (2, customer)
