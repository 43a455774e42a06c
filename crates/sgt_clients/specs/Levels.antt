-- The levels of isolation of what clients saw, and the claims of the answers.
use Rattle.std.specs.Prelude.{⊤, ◌≡◌, ◌≢◌, ◌<◌, ◌&&◌, ◌||◌, ℕ, Bool, true, false, Option, Some, None, IfSome, if◌then◌else◌}
use Rattle.std.specs.Option.{option_map_or}
use Rattle.sgt_levels.specs.Answers.{AreRight}
use Rattle.sgt_levels.specs.Commits.{IsReadCommitted}
use Rattle.sgt_levels.specs.Snapshots.{IsSnapshotIsolated}
use Rattle.sgt_levels.specs.Unseen.{AreUnseen}
use Rattle.sgt_levels.specs.WriteOrders.{IsReadUncommitted}
use Rattle.sgt_levels.specs.declared.levels.Writes.{Writes}
use Rattle.sgt_levels.specs.declared.levels.Writes.TheVariants as writes
use Rattle.sgt_levels.specs.declared.levels.Committed.{Committed}
use Rattle.sgt_levels.specs.declared.levels.Committed.TheVariants as committed
use Rattle.sgt_levels.specs.declared.levels.Snapshot.{Snapshot}
use Rattle.sgt_levels.specs.declared.levels.Snapshot.TheVariants as snapshot
use Rattle.sgt_clients.specs.declared.clients.Clients.{Clients}
use Rattle.sgt_clients.specs.declared.finding.Finding.{Finding}
use Rattle.sgt_clients.specs.declared.level.Answer.{Answer}
use Rattle.sgt_clients.specs.declared.level.Answer.TheVariants.{Yes, No, Undecided}
use Rattle.sgt_clients.specs.declared.level.Level.{Level}
use Rattle.sgt_clients.specs.declared.level.Level.TheVariants.{ReadUncommitted, ReadCommitted, SnapshotIsolation, Serializable, StrictSerializable}
use Rattle.sgt_clients.specs.declared.level.Question.{Question}
use Rattle.sgt_clients.specs.declared.level_findings.LevelFindings.{LevelFindings}
use Rattle.sgt_clients.specs.Findings.{HasOrder, IsFound, is_order}

-- whether the level keeps real time
abbrev pub is_strict : Level → Bool
is_strict StrictSerializable = true
is_strict level = false

-- whether a serial order has to keep real time
abbrev pub keeps_time : Question → Bool
keeps_time q = q.strict || is_strict q.level

-- what the clients saw is of the level
abbrev pub IsOfLevel : Level → Clients → Type 0
IsOfLevel ReadUncommitted c = IsReadUncommitted c.transactions.items
IsOfLevel ReadCommitted c = IsReadCommitted c.transactions.items
IsOfLevel SnapshotIsolation c = IsSnapshotIsolated c.transactions.items
IsOfLevel Serializable c = HasOrder false c.transactions.items c.spans.items
IsOfLevel StrictSerializable c = HasOrder true c.transactions.items c.spans.items

-- The claim of an answer. The levels of serial orders are always decided.
abbrev pub IsAnswer : Level → Clients → Answer → Type 0
IsAnswer level c Yes = IsOfLevel level c
IsAnswer level c No = ¬ IsOfLevel level c
IsAnswer level c Undecided = (level ≢ Serializable) × (level ≢ StrictSerializable)

-- the answer for read uncommitted
abbrev pub writes_answer : Writes → Answer
writes_answer writes.Implied = Yes
writes_answer (writes.Order order) = Yes
writes_answer (writes.Cycle ties) = No
writes_answer writes.Open = Undecided

-- the answer for read committed
abbrev pub committed_answer : Committed → Answer
committed_answer (committed.Run order) = Yes
committed_answer (committed.Fault reader read fault) = No
committed_answer (committed.Partial partial) = No
committed_answer (committed.Cycle ties) = No
committed_answer committed.Open = Undecided

-- the answer for snapshot isolation
abbrev pub snapshot_answer : Snapshot → Answer
snapshot_answer (snapshot.Run run) = Yes
snapshot_answer snapshot.NotCommitted = No
snapshot_answer (snapshot.Cycle ties) = No
snapshot_answer snapshot.Open = Undecided

-- the answer of a finding: there is an order, or none
abbrev pub serial_answer : Finding → Answer
serial_answer f = if is_order f then Yes else No

-- the finding without real time: the other one, if there is one
abbrev pub serial_finding : Finding → Option Finding → Finding
serial_finding f None = f
serial_finding f (Some other) = other

-- whether what the clients saw is of the level
abbrev pub answer_of : LevelFindings → Level → Answer
answer_of f ReadUncommitted = option_map_or (λ w. writes_answer w.levels.writes) f.weaker Yes
answer_of f ReadCommitted = option_map_or (λ w. committed_answer w.levels.committed) f.weaker Yes
answer_of f SnapshotIsolation = option_map_or (λ w. snapshot_answer w.levels.snapshot) f.weaker Yes
answer_of f Serializable = serial_answer (serial_finding f.finding f.untimed)
answer_of f StrictSerializable = serial_answer f.finding

-- whether the answer is yes
abbrev pub is_yes : Answer → Bool
is_yes Yes = true
is_yes answer = false

-- the strongest level that holds, if any does; the strict one counts only if real time is kept
abbrev pub strongest_of : Bool → LevelFindings → Option Level
strongest_of strict f =
    if strict && is_yes (answer_of f StrictSerializable) then Some StrictSerializable
    else if is_yes (answer_of f Serializable) then Some Serializable
    else if is_yes (answer_of f SnapshotIsolation) then Some SnapshotIsolation
    else if is_yes (answer_of f ReadCommitted) then Some ReadCommitted
    else if is_yes (answer_of f ReadUncommitted) then Some ReadUncommitted
    else None

-- whether there is no answer
abbrev pub is_undecided : Answer → Bool
is_undecided Undecided = true
is_undecided answer = false

-- Whether the strongest level is only the strongest that is shown: the next one is undecided. The levels of serial orders
-- are always decided.
abbrev pub is_at_least : LevelFindings → Option Level → Bool
is_at_least f None = is_undecided (answer_of f ReadUncommitted)
is_at_least f (Some ReadUncommitted) = is_undecided (answer_of f ReadCommitted)
is_at_least f (Some ReadCommitted) = is_undecided (answer_of f SnapshotIsolation)
is_at_least f (Some level) = false

-- the strength of a level
abbrev pub strength : Level → ℕ
strength ReadUncommitted = 1
strength ReadCommitted = 2
strength SnapshotIsolation = 3
strength Serializable = 4
strength StrictSerializable = 5

-- the level is stronger than the other one, or than none
abbrev pub IsStronger : Level → Option Level → Type 0
IsStronger level None = ⊤
IsStronger level (Some other) = strength other < strength level

-- No stronger level holds. Strict serializability counts only if real time is kept.
abbrev pub NoStronger : Bool → Clients → Option Level → Type 0
NoStronger strict c strongest = (level : Level) → IsStronger level strongest → (is_strict level ≡ true → strict ≡ true) → ¬ IsOfLevel level c

-- each finding is right, and one that is left out follows from an order
pub record AreFound (strict : Bool) (c : Clients) (f : LevelFindings) : Type 0 where
  pub finding : IsFound strict c.transactions.items c.spans.items f.finding
  pub untimed : IfSome f.untimed (IsFound false c.transactions.items c.spans.items)
  pub timed : f.untimed ≡ None → strict ≡ true → is_order f.finding ≡ true
  pub weaker : IfSome f.weaker (λ w. AreRight c.transactions.items w.levels)
  pub unseen : IfSome f.weaker (λ w. IfSome w.unseen (AreUnseen c.transactions.items))
  pub implied : f.weaker ≡ None → is_order (serial_finding f.finding f.untimed) ≡ true
