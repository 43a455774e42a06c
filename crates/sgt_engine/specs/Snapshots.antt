-- What is kept of the committed database.
use Rattle.std.specs.Prelude.{◌≡◌, ◌≤◌, List, Option, IfSome, length}
use Rattle.sgt_model.specs.declared.entry.Entry.{Entry}
use Rattle.sgt_model.specs.Contents.{Key}
use Rattle.sgt_model.specs.Databases.{Row, contents_of}
use Rattle.sgt_model.specs.Values.{settled}
use Rattle.sgt_engine.specs.declared.engine.snapshot.Snapshot.{Snapshot}

-- what was kept, if anything was, is no newer than the history; until the next entry it is what the history has committed
abbrev pub IsSnapshot : List Row → List Entry → Option Snapshot → Type 0
IsSnapshot opening past snapshot = IfSome snapshot (λ s. (s.entries ≤ length past)
    × (s.entries ≡ length past → (k : Key) → contents_of s.database k ≡ settled (contents_of opening) past k))
