-- Every legal history continues, and the contents that it leaves can be written as rows. So whatever a run has reported
-- so far is the beginning of what a whole run may report.
use Rattle.std.specs.Prelude.{◌≡◌, List, ◌++◌}
use Rattle.sgt_model.specs.declared.event.Event.{Event}
use Rattle.sgt_model.specs.declared.entry.Entry.{Entry}
use Rattle.sgt_model.specs.Contents.{Key}
use Rattle.sgt_model.specs.Databases.{Row, IsByKey, contents_of}
use Rattle.sgt_model.specs.Values.{settled}
use Rattle.sgt_model.specs.Configurations.{Configuration}
use Rattle.sgt_model.specs.Legality.{Legal}
use Rattle.sgt_model.specs.Histories.{events_of}

-- over any further events, a legal history continues to a legal one
abbrev pub HistoriesGoOn : Type 0
HistoriesGoOn = (s : Configuration) (past : List Entry) (events : List Event) → Legal s past → (later : List Entry) × Legal s (later ++ past) × (events_of later ≡ events)

-- if the initial database is rows, the committed contents after any entries can be written as rows by key
abbrev pub SettledAreRows : Type 0
SettledAreRows = (rows : List Row) (past : List Entry) → (after : List Row) × IsByKey after × ((k : Key) → contents_of after k ≡ settled (contents_of rows) past k)
