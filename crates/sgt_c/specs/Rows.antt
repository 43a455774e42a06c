-- What rows say, as C passes and reads them, and how they change a database.
use Rattle.std.specs.Prelude.{◌≡◌, ℕ, ◌≤◌, cond, length, map, take, List, [], ◌∷◌, Option, Some, None}
use Rattle.sgt_model.specs.Contents.{Key, Contents}
use Rattle.sgt_model.specs.Databases.{Row, contents_of, key_lt, IsByKey}
use Rattle.sgt_model.specs.Numbers.{IsValue}
use Rattle.sgt_model.specs.Replay.{folded}
use Rattle.sgt_model.specs.Values.{settled}
use Rattle.sgt_engine.specs.EngineView.{EngineView, configuration_of}
use Rattle.sgt_engine.specs.Puts.{with_rows as with_keyed}
use Rattle.sgt_c.specs.declared.held.Held.{Held}
use Rattle.sgt_c.specs.declared.row_struct.SgtRow.{SgtRow}

-- the table is at most 7, and both numbers are values
abbrev pub IsRow : SgtRow → Type 0
IsRow s = ((s.table ≤ 7) × IsValue s.number) × IsValue s.value

-- the key and the value
abbrev pub row_of : SgtRow → Row
row_of s = ((s.table, s.number), s.value)

-- the contents after these rows are written, one after another
abbrev pub with_rows : Contents → List SgtRow → Contents
with_rows contents rows = with_keyed contents (map row_of rows)

-- rows by key, from the first key that is not less than this one
abbrev pub rows_from : Key → List Row → List Row
rows_from k [] = []
rows_from k (r ∷ rows) = cond (key_lt r.0 k) (rows_from k rows) (r ∷ rows)

-- the first rows are returned, as many as the buffer holds
abbrev pub HoldRows : List SgtRow → List Row → Type 0
HoldRows to rows = take (length rows) (map row_of to) ≡ take (length to) rows

-- the rows are the committed database, by key; the replay leaves the same
abbrev pub IsCommitted : EngineView → List Row → Type 0
IsCommitted e rows = IsByKey rows
    × ((k : Key) → contents_of rows k ≡ settled (contents_of e.opening) e.past k)
    × ((k : Key) → contents_of rows k ≡ (folded (configuration_of e) e.past).last k)

-- the committed database is written from a key on, and has this number of rows from there
abbrev pub AreWritten : EngineView → Key → List SgtRow → ℕ → Type 0
AreWritten e key to count = (rows : List Row) × IsCommitted e rows
    × HoldRows to (rows_from key rows) × (count ≡ length (rows_from key rows))

-- the committed database has this number of rows
abbrev pub AreCounted : EngineView → ℕ → Type 0
AreCounted e count = (rows : List Row) × IsCommitted e rows × (count ≡ length rows)

-- the committed database is returned from a key on, with its number of rows from there
abbrev pub ReturnsRows : Option Held → Key → List SgtRow → ℕ → Type 0
ReturnsRows None key to count = ⊥
ReturnsRows (Some h) key to count = AreWritten h.engine key to count

-- the committed database has this many rows
abbrev pub CountsRows : Option Held → ℕ → Type 0
CountsRows None count = ⊥
CountsRows (Some h) count = AreCounted h.engine count
