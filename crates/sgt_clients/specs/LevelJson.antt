-- The members on the levels of isolation.
use Rattle.std.specs.Prelude.{◌++◌, ℕ, Bool, List, [], ◌∷◌, Option, Some, None, codes, if◌then◌else◌}
use Rattle.std.specs.Option.{option_map_or}
use Rattle.std.specs.Fmt.{decimal}
use Rattle.sgt_levels.specs.declared.levels.Writes.{Writes}
use Rattle.sgt_levels.specs.declared.levels.Writes.TheVariants as writes
use Rattle.sgt_levels.specs.declared.levels.Committed.{Committed}
use Rattle.sgt_levels.specs.declared.levels.Committed.TheVariants as committed
use Rattle.sgt_levels.specs.declared.levels.Snapshot.{Snapshot}
use Rattle.sgt_levels.specs.declared.levels.Snapshot.TheVariants as snapshot
use Rattle.sgt_levels.specs.declared.search.Snapshots.{Snapshots}
use Rattle.sgt_levels.specs.declared.tie.Tie.{Tie}
use Rattle.sgt_levels.specs.declared.unseen.Unseen.{Unseen}
use Rattle.sgt_format.specs.Templates.{filled}
use Rattle.sgt_clients.specs.declared.clients.Clients.{Clients}
use Rattle.sgt_clients.specs.declared.level.Answer.{Answer}
use Rattle.sgt_clients.specs.declared.level.Answer.TheVariants.{Yes, No, Undecided}
use Rattle.sgt_clients.specs.declared.level.Level.{Level}
use Rattle.sgt_clients.specs.declared.level.Level.TheVariants.{ReadUncommitted, ReadCommitted, SnapshotIsolation, Serializable, StrictSerializable}
use Rattle.sgt_clients.specs.declared.level_findings.LevelFindings.{LevelFindings}
use Rattle.sgt_clients.specs.JsonText.{truth_text, list_text, tie_object, anomaly_member, order_member, cycle_member, reader_members, finding_members}
use Rattle.sgt_clients.specs.Levels.{answer_of, strongest_of, is_at_least}
use Rattle.sgt_clients.specs.ReportText.{fault_text, partial_text, unseen_in}

-- the name of a level, as the option spells it, in quotes
abbrev pub level_code : Level → List ℕ
level_code ReadUncommitted = codes "\"read-uncommitted\""
level_code ReadCommitted = codes "\"read-committed\""
level_code SnapshotIsolation = codes "\"snapshot-isolation\""
level_code Serializable = codes "\"serializable\""
level_code StrictSerializable = codes "\"strict-serializable\""

-- the name of the strongest level, or `null`
abbrev pub strongest_code : Option Level → List ℕ
strongest_code None = codes "null"
strongest_code (Some level) = level_code level

-- an answer
abbrev pub answer_text : Answer → List ℕ
answer_text Yes = codes "yes"
answer_text No = codes "no"
answer_text Undecided = codes "undecided"

-- the beginning of the object of a level: whether it holds
abbrev pub holds_text : Level → Answer → List ℕ
holds_text level answer = filled (codes "#:{\"holds\":\"#\"") (level_code level ∷ answer_text answer ∷ [])

-- the anomaly, and its cycle of ties
abbrev pub ties_members : Clients → List ℕ → List Tie → List ℕ
ties_members c name ties = anomaly_member name ++ cycle_member (tie_object c) ties

-- the evidence of an answer for read uncommitted
abbrev pub ordered_members : Clients → List ℕ → Writes → List ℕ
ordered_members c name writes.Implied = []
ordered_members c name (writes.Order order) = order_member order.items
ordered_members c name (writes.Cycle ties) = ties_members c name ties.items
ordered_members c name writes.Open = []

-- the evidence of an answer for read committed
abbrev pub evidence_members : Clients → List ℕ → Committed → List ℕ
evidence_members c name (committed.Run order) = order_member order.items
evidence_members c name (committed.Fault reader read fault) = anomaly_member name ++ reader_members c reader (fault_text c reader read fault)
evidence_members c name (committed.Partial partial) = anomaly_member name ++ reader_members c partial.reader (partial_text c partial)
evidence_members c name (committed.Cycle ties) = ties_members c name ties.items
evidence_members c name committed.Open = []

-- the order of commits, and how many of it had committed when each began
abbrev pub run_members : Snapshots → List ℕ
run_members run = order_member run.order.items ++ list_text (codes ",\"starts\":[") decimal run.starts.items

-- the evidence of an answer for snapshot isolation
abbrev pub split_members : Clients → List ℕ → Option Unseen → Snapshot → List ℕ
split_members c name unseen (snapshot.Run run) = run_members run
split_members c name unseen snapshot.NotCommitted = []
split_members c name unseen (snapshot.Cycle ties) = ties_members c name ties.items
split_members c name unseen snapshot.Open = unseen_in (codes ",\"why\":\"#\"") c unseen

-- the evidence of a level, unless it stands before or follows from that of another one
abbrev pub level_members : Clients → LevelFindings → Level → List ℕ
level_members c f ReadUncommitted = option_map_or (λ w. ordered_members c w.writes_name.now w.levels.writes) f.weaker []
level_members c f ReadCommitted = option_map_or (λ w. evidence_members c w.committed_name.now w.levels.committed) f.weaker []
level_members c f SnapshotIsolation = option_map_or (λ w. split_members c w.snapshot_name.now w.unseen w.levels.snapshot) f.weaker []
level_members c f Serializable = option_map_or (finding_members c) f.untimed []
level_members c f StrictSerializable = []

-- the object of a level
abbrev pub level_object : Clients → LevelFindings → Level → List ℕ
level_object c f level = holds_text level (answer_of f level) ++ level_members c f level ++ codes "}"

-- the same after a comma
abbrev pub next_object : Clients → LevelFindings → Level → List ℕ
next_object c f level = codes "," ++ level_object c f level

-- the object of strict serializability, if real time is kept
abbrev pub strict_object : Bool → Clients → LevelFindings → List ℕ
strict_object strict c f = if strict then next_object c f StrictSerializable else []

-- the objects of the levels, from the weakest on
abbrev pub level_objects : Bool → Clients → LevelFindings → List ℕ
level_objects strict c f = level_object c f ReadUncommitted ++ next_object c f ReadCommitted ++ next_object c f SnapshotIsolation
    ++ next_object c f Serializable ++ strict_object strict c f

-- the members on the strongest level, and the beginning of that on each level
abbrev pub strongest_member : Bool → Option Level → List ℕ
strongest_member at_least level =
    filled (codes ",\"strongest\":#,\"at_least\":#,\"levels\":{") (strongest_code level ∷ truth_text at_least ∷ [])

-- the members on the strongest level, and on each level
abbrev pub levels_members : Bool → Clients → LevelFindings → List ℕ
levels_members strict c f = strongest_member (is_at_least f (strongest_of strict f)) (strongest_of strict f) ++ level_objects strict c f
    ++ codes "}"
