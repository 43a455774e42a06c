-- The records of rows.
use Rattle.std.specs.Prelude.{ℤ, Some}
use Rattle.sgt_records.specs.declared.record.Record.{Record}
use Rattle.sgt_records.specs.declared.written.Written.TheVariants.{Nothing}

-- the record of a committed value, with nothing written above it
abbrev pub record_with : ℤ → Record
record_with v = record { committed = Some v; written = Nothing }
