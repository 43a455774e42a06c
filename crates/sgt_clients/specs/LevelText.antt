-- The lines of a report on the levels of isolation.
use Rattle.std.specs.Prelude.{◌++◌, ℕ, Bool, List, [], ◌∷◌, Option, Some, None, codes, if◌then◌else◌}
use Rattle.std.specs.List.{flat_map}
use Rattle.std.specs.Option.{option_map_or}
use Rattle.sgt_levels.specs.declared.levels.Writes.{Writes}
use Rattle.sgt_levels.specs.declared.levels.Writes.TheVariants as writes
use Rattle.sgt_levels.specs.declared.levels.Committed.{Committed}
use Rattle.sgt_levels.specs.declared.levels.Committed.TheVariants as committed
use Rattle.sgt_levels.specs.declared.levels.Snapshot.{Snapshot}
use Rattle.sgt_levels.specs.declared.levels.Snapshot.TheVariants as snapshot
use Rattle.sgt_levels.specs.declared.tie.Tie.{Tie}
use Rattle.sgt_levels.specs.declared.unseen.Unseen.{Unseen}
use Rattle.sgt_format.specs.Templates.{filled}
use Rattle.sgt_clients.specs.declared.clients.Clients.{Clients}
use Rattle.sgt_clients.specs.declared.level.Level.{Level}
use Rattle.sgt_clients.specs.declared.level.Level.TheVariants.{ReadUncommitted, ReadCommitted, SnapshotIsolation, Serializable, StrictSerializable}
use Rattle.sgt_clients.specs.declared.level_findings.LevelFindings.{LevelFindings}
use Rattle.sgt_clients.specs.declared.level_findings.Weaker.{Weaker}
use Rattle.sgt_clients.specs.Levels.{strongest_of, is_at_least}
use Rattle.sgt_clients.specs.ReportText.{tie_text, partial_line, fault_line, unseen_in, witness_text}

-- the name of a level
abbrev pub level_words : Level → List ℕ
level_words ReadUncommitted = codes "read uncommitted"
level_words ReadCommitted = codes "read committed"
level_words SnapshotIsolation = codes "snapshot isolation"
level_words Serializable = codes "serializable"
level_words StrictSerializable = codes "strict serializable"

-- the name of the strongest level, or `none`
abbrev pub strongest_words : Option Level → List ℕ
strongest_words None = codes "none"
strongest_words (Some level) = level_words level

-- the words before the strongest level, if it is only the strongest that is shown
abbrev pub bound_words : Bool → List ℕ
bound_words at_least = if at_least then codes "at least " else []

-- the line of the strongest level
abbrev pub strongest_text : Bool → Option Level → List ℕ
strongest_text at_least level = filled (codes "strongest level: ##\n") (bound_words at_least ∷ strongest_words level ∷ [])

-- the line that a level does not hold, with the name of the anomaly
abbrev pub not_text : Level → List ℕ → List ℕ
not_text level name = filled (codes "not #: #\n") (level_words level ∷ name ∷ [])

-- the line that what stands above breaks a level as well
abbrev pub above_text : Level → List ℕ
above_text level = not_text level (codes "by the lines above")

-- no answer for a level
abbrev pub undecided_text : Level → List ℕ
undecided_text level = filled (codes "# undecided\n") (level_words level ∷ [])

-- the line that a level does not hold, and its cycle of ties
abbrev pub ties_text : Clients → Level → List ℕ → List Tie → List ℕ
ties_text c level name ties = not_text level name ++ flat_map (tie_text c) ties

-- an answer for read uncommitted that is no yes
abbrev pub unordered_text : Clients → List ℕ → Writes → List ℕ
unordered_text c name writes.Implied = []
unordered_text c name (writes.Order order) = []
unordered_text c name (writes.Cycle ties) = ties_text c ReadUncommitted name ties.items
unordered_text c name writes.Open = undecided_text ReadUncommitted

-- an answer for read committed that is no yes
abbrev pub broken_text : Clients → List ℕ → Committed → List ℕ
broken_text c name (committed.Run order) = []
broken_text c name (committed.Fault reader read fault) = not_text ReadCommitted name ++ fault_line c reader read fault
broken_text c name (committed.Partial partial) = not_text ReadCommitted name ++ partial_line c partial
broken_text c name (committed.Cycle ties) = ties_text c ReadCommitted name ties.items
broken_text c name committed.Open = undecided_text ReadCommitted

-- what breaks read committed
abbrev pub committed_text : Clients → Weaker → List ℕ
committed_text c w =
    if w.committed_above then above_text ReadCommitted else broken_text c w.committed_name.now w.levels.committed

-- no answer for snapshot isolation
abbrev pub open_text : Clients → Option Unseen → List ℕ
open_text c unseen = codes "snapshot isolation undecided: no read saw which of two appends to a key came first\n"
    ++ unseen_in (codes "  #\n") c unseen

-- an answer for snapshot isolation that is no yes, where read committed holds
abbrev pub split_text : Clients → List ℕ → Option Unseen → Snapshot → List ℕ
split_text c name unseen (snapshot.Run run) = []
split_text c name unseen snapshot.NotCommitted = []
split_text c name unseen (snapshot.Cycle ties) = ties_text c SnapshotIsolation name ties.items
split_text c name unseen snapshot.Open = open_text c unseen

-- what breaks snapshot isolation
abbrev pub snapshot_text : Clients → Weaker → List ℕ
snapshot_text c w =
    if w.snapshot_above then above_text SnapshotIsolation else split_text c w.snapshot_name.now w.unseen w.levels.snapshot

-- what breaks serializability, if there is a finding of its own on that, unless the lines before say it
abbrev pub untimed_text : Clients → LevelFindings → List ℕ
untimed_text c f = if f.serial_above then above_text Serializable else option_map_or (witness_text (codes "not serializable: #\n") c) f.untimed []

-- what breaks the level after the strongest one, unless the lines before say it
abbrev pub next_text : Clients → LevelFindings → Option Level → List ℕ
next_text c f None = option_map_or (λ w. unordered_text c w.writes_name.now w.levels.writes) f.weaker []
next_text c f (Some ReadUncommitted) = option_map_or (committed_text c) f.weaker []
next_text c f (Some ReadCommitted) = option_map_or (snapshot_text c) f.weaker []
next_text c f (Some SnapshotIsolation) = untimed_text c f
next_text c f (Some Serializable) = []
next_text c f (Some StrictSerializable) = []

-- the lines on the levels
abbrev pub levels_text : Bool → Clients → LevelFindings → List ℕ
levels_text strict c f = strongest_text (is_at_least f (strongest_of strict f)) (strongest_of strict f) ++ next_text c f (strongest_of strict f)
