-- The answers for all levels are right.
use Rattle.std.proofs.Common.{◌≡◌, Bool, true, false, List, refl, subst, Option, Some, None, arith}
use Rattle.std.specs.Prelude.{◌||◌, ◌&&◌, if◌then◌else◌, IfSome}
use Rattle.std.specs.Option.{option_map_or}
use Rattle.sgt_appends.specs.declared.transaction.Transaction.{Transaction}
use Rattle.sgt_levels.specs.Answers.{IsWritesRight, IsCommittedRight, IsSnapshotRight, AreRight}
use Rattle.sgt_levels.specs.declared.levels.Writes.{Writes}
use Rattle.sgt_levels.specs.declared.levels.Writes.TheVariants as writes
use Rattle.sgt_levels.specs.declared.levels.Committed.{Committed}
use Rattle.sgt_levels.specs.declared.levels.Committed.TheVariants as committed
use Rattle.sgt_levels.specs.declared.levels.Snapshot.{Snapshot}
use Rattle.sgt_levels.specs.declared.levels.Snapshot.TheVariants as snapshot
use Rattle.sgt_levels.proofs.Order.{serial_snapshot, snapshot_committed}
use Rattle.sgt_levels.proofs.WriteOrders.{committed_writes}
use Rattle.sgt_clients.specs.declared.clients.Clients.{Clients}
use Rattle.sgt_clients.specs.declared.clients.Span.{Span}
use Rattle.sgt_clients.specs.declared.finding.Finding.{Finding}
use Rattle.sgt_clients.specs.declared.finding.Finding.TheVariants.{Serial, Cycle, Fault}
use Rattle.sgt_clients.specs.declared.level.Answer.{Answer}
use Rattle.sgt_clients.specs.declared.level.Answer.TheVariants.{Yes, No, Undecided}
use Rattle.sgt_clients.specs.declared.level.Level.{Level}
use Rattle.sgt_clients.specs.declared.level.Level.TheVariants.{ReadUncommitted, ReadCommitted, SnapshotIsolation, Serializable, StrictSerializable}
use Rattle.sgt_clients.specs.declared.level_findings.LevelFindings.{LevelFindings}
use Rattle.sgt_clients.specs.declared.level_findings.Weaker.{Weaker}
use Rattle.sgt_clients.specs.Findings.{HasOrder, IsFound, is_order}
use Rattle.sgt_clients.specs.Levels.{is_strict, IsOfLevel, IsAnswer, writes_answer, committed_answer, snapshot_answer, serial_answer, serial_finding, answer_of, is_yes, is_undecided, strongest_of, is_at_least, NoStronger, AreFound}

-- a finding without real time
untimed_right : (c : Clients) (f : Finding) → IsFound false c.transactions.items c.spans.items f → IsAnswer Serializable c (serial_answer f)
untimed_right c (Serial order) found = (order.items, found)
untimed_right c (Cycle steps name) found = found
untimed_right c (Fault reader read fault name) found = found

-- a finding with real time
timed_right : (c : Clients) (f : Finding) → IsFound true c.transactions.items c.spans.items f → IsAnswer StrictSerializable c (serial_answer f)
timed_right c (Serial order) found = (order.items, found)
timed_right c (Cycle steps name) found = found
timed_right c (Fault reader read fault name) found = found

-- an order that keeps real time is an order
order_untimed : (h : List Transaction) (spans : List Span) (f : Finding) → IsFound true h spans f → is_order f ≡ true → IsFound false h spans f
order_untimed h spans (Serial order) found is = found.0
order_untimed h spans (Cycle steps name) found is = absurd (cc)
order_untimed h spans (Fault reader read fault name) found is = absurd (cc)

writes_right : (c : Clients) (a : Writes) → IsWritesRight c.transactions.items a → IsAnswer ReadUncommitted c (writes_answer a)
writes_right c writes.Implied right = right
writes_right c (writes.Order order) right = (order.items, right)
writes_right c (writes.Cycle ties) right = right
writes_right c writes.Open right = (λ is. absurd (cc), λ is. absurd (cc))

committed_right : (c : Clients) (a : Committed) → IsCommittedRight c.transactions.items a → IsAnswer ReadCommitted c (committed_answer a)
committed_right c (committed.Run order) right = (order.items, right)
committed_right c (committed.Fault reader read fault) right = right.1
committed_right c (committed.Partial partial) right = right
committed_right c (committed.Cycle ties) right = right
committed_right c committed.Open right = (λ is. absurd (cc), λ is. absurd (cc))

snapshot_right : (c : Clients) (a : Snapshot) → IsSnapshotRight c.transactions.items a → IsAnswer SnapshotIsolation c (snapshot_answer a)
snapshot_right c (snapshot.Run run) right = (run.order.items, right.0.0, right.0.1, right.0.2)
snapshot_right c snapshot.NotCommitted right = right
snapshot_right c (snapshot.Cycle ties) right = right
snapshot_right c snapshot.Open right = (λ is. absurd (cc), λ is. absurd (cc))

-- the finding without real time is right
serial_right : (strict : Bool) (c : Clients) (finding : Finding) (untimed : Option Finding) → IsFound strict c.transactions.items c.spans.items finding
    → IfSome untimed (IsFound false c.transactions.items c.spans.items) → (untimed ≡ None → strict ≡ true → is_order finding ≡ true)
    → IsFound false c.transactions.items c.spans.items (serial_finding finding untimed)
serial_right strict c finding (Some other) found right timed = right
serial_right false c finding None found right timed = found
serial_right true c finding None found right timed =
    order_untimed c.transactions.items c.spans.items finding found (timed refl refl)

-- where there is an order, each weaker level holds
serial_implies : (c : Clients) (f : Finding) → IsFound false c.transactions.items c.spans.items f → is_order f ≡ true
    → HasOrder false c.transactions.items c.spans.items
serial_implies c (Serial order) found is = (order.items, found)
serial_implies c (Cycle steps name) found is = absurd (cc)
serial_implies c (Fault reader read fault name) found is = absurd (cc)

snapshot_holds : (c : Clients) → HasOrder false c.transactions.items c.spans.items → IsOfLevel SnapshotIsolation c
snapshot_holds c order = serial_snapshot c.transactions.items order

committed_holds : (c : Clients) → HasOrder false c.transactions.items c.spans.items → IsOfLevel ReadCommitted c
committed_holds c order =
    let it = serial_snapshot c.transactions.items order in
    (it.0, snapshot_committed c.transactions.items it.0 it.1 it.2 it.3)

uncommitted_holds : (c : Clients) → HasOrder false c.transactions.items c.spans.items → IsOfLevel ReadUncommitted c
uncommitted_holds c order =
    let it = committed_holds c order in
    (it.0, committed_writes c.transactions.items it.0 it.1)

weaker_writes : (c : Clients) (weaker : Option Weaker) → IfSome weaker (λ w. AreRight c.transactions.items w.levels)
    → (weaker ≡ None → HasOrder false c.transactions.items c.spans.items)
    → IsAnswer ReadUncommitted c (option_map_or (λ w. writes_answer w.levels.writes) weaker Yes)
weaker_writes c (Some w) right implied = writes_right c w.levels.writes right.writes
weaker_writes c None right implied = uncommitted_holds c (implied refl)

weaker_committed : (c : Clients) (weaker : Option Weaker) → IfSome weaker (λ w. AreRight c.transactions.items w.levels)
    → (weaker ≡ None → HasOrder false c.transactions.items c.spans.items)
    → IsAnswer ReadCommitted c (option_map_or (λ w. committed_answer w.levels.committed) weaker Yes)
weaker_committed c (Some w) right implied = committed_right c w.levels.committed right.committed
weaker_committed c None right implied = committed_holds c (implied refl)

weaker_snapshot : (c : Clients) (weaker : Option Weaker) → IfSome weaker (λ w. AreRight c.transactions.items w.levels)
    → (weaker ≡ None → HasOrder false c.transactions.items c.spans.items)
    → IsAnswer SnapshotIsolation c (option_map_or (λ w. snapshot_answer w.levels.snapshot) weaker Yes)
weaker_snapshot c (Some w) right implied = snapshot_right c w.levels.snapshot right.snapshot
weaker_snapshot c None right implied = snapshot_holds c (implied refl)

-- each answer is right; that of the strict level, if real time is kept
pub answers_right : (strict : Bool) (c : Clients) (f : LevelFindings) (level : Level) → AreFound strict c f
    → (is_strict level ≡ true → strict ≡ true) → IsAnswer level c (answer_of f level)
answers_right strict c f ReadUncommitted found keeps =
    weaker_writes c f.weaker found.weaker
    (λ none. serial_implies c (serial_finding f.finding f.untimed)
    (serial_right strict c f.finding f.untimed found.finding found.untimed found.timed) (found.implied none))
answers_right strict c f ReadCommitted found keeps =
    weaker_committed c f.weaker found.weaker
    (λ none. serial_implies c (serial_finding f.finding f.untimed)
    (serial_right strict c f.finding f.untimed found.finding found.untimed found.timed) (found.implied none))
answers_right strict c f SnapshotIsolation found keeps =
    weaker_snapshot c f.weaker found.weaker
    (λ none. serial_implies c (serial_finding f.finding f.untimed)
    (serial_right strict c f.finding f.untimed found.finding found.untimed found.timed) (found.implied none))
answers_right strict c f Serializable found keeps =
    untimed_right c (serial_finding f.finding f.untimed)
    (serial_right strict c f.finding f.untimed found.finding found.untimed found.timed)
answers_right strict c f StrictSerializable found keeps =
    timed_right c f.finding (subst (λ s. IsFound s c.transactions.items c.spans.items f.finding) (keeps refl) found.finding)

-- a level whose answer is yes holds
yes_holds : (level : Level) (c : Clients) (a : Answer) → IsAnswer level c a → is_yes a ≡ true → IsOfLevel level c
yes_holds level c Yes right is = right
yes_holds level c No right is = absurd (cc)
yes_holds level c Undecided right is = absurd (cc)

-- the first of the levels that is picked, or one of the rest
pick : (c : Clients) (b : Bool) (level : Level) (rest : Option Level) → (b ≡ true → IsOfLevel level c) → IfSome rest (λ l. IsOfLevel l c)
    → IfSome (if b then Some level else rest) (λ l. IsOfLevel l c)
pick c true level rest holds others = holds refl
pick c false level rest holds others = others

both_true : (a b : Bool) → (a && b) ≡ true → (a ≡ true) × (b ≡ true)
both_true true b is = (refl, is)
both_true false b is = absurd (cc)

-- the strongest level holds
pub strongest_holds : (strict : Bool) (c : Clients) (f : LevelFindings) → AreFound strict c f
    → IfSome (strongest_of strict f) (λ level. IsOfLevel level c)
strongest_holds strict c f found =
    pick c (strict && is_yes (answer_of f StrictSerializable)) StrictSerializable _
    (λ is. let both = both_true strict (is_yes (answer_of f StrictSerializable)) is in
    yes_holds StrictSerializable c (answer_of f StrictSerializable) (answers_right strict c f StrictSerializable found (λ _. both.0)) both.1)
    (pick c (is_yes (answer_of f Serializable)) Serializable _
    (yes_holds Serializable c (answer_of f Serializable) (answers_right strict c f Serializable found (λ is. absurd (cc))))
    (pick c (is_yes (answer_of f SnapshotIsolation)) SnapshotIsolation _
    (yes_holds SnapshotIsolation c (answer_of f SnapshotIsolation) (answers_right strict c f SnapshotIsolation found (λ is. absurd (cc))))
    (pick c (is_yes (answer_of f ReadCommitted)) ReadCommitted _
    (yes_holds ReadCommitted c (answer_of f ReadCommitted) (answers_right strict c f ReadCommitted found (λ is. absurd (cc))))
    (pick c (is_yes (answer_of f ReadUncommitted)) ReadUncommitted None
    (yes_holds ReadUncommitted c (answer_of f ReadUncommitted) (answers_right strict c f ReadUncommitted found (λ is. absurd (cc))))
    tt))))

-- if the next stronger level does not hold, none does

-- what the clients saw is of each weaker level
strict_serial : (c : Clients) → IsOfLevel StrictSerializable c → IsOfLevel Serializable c
strict_serial c (order, is) = (order, is.0)

snapshot_committed_of : (c : Clients) → IsOfLevel SnapshotIsolation c → IsOfLevel ReadCommitted c
snapshot_committed_of c (order, begin, commit, is) = (order, snapshot_committed c.transactions.items order begin commit is)

committed_uncommitted_of : (c : Clients) → IsOfLevel ReadCommitted c → IsOfLevel ReadUncommitted c
committed_uncommitted_of c (order, is) = (order, committed_writes c.transactions.items order is)

-- what the clients saw is not of the level after this one
abbrev NotNext : Bool → Clients → Option Level → Type 0
NotNext strict c None = ¬ IsOfLevel ReadUncommitted c
NotNext strict c (Some ReadUncommitted) = ¬ IsOfLevel ReadCommitted c
NotNext strict c (Some ReadCommitted) = ¬ IsOfLevel SnapshotIsolation c
NotNext strict c (Some SnapshotIsolation) = ¬ IsOfLevel Serializable c
NotNext strict c (Some Serializable) = strict ≡ true → ¬ IsOfLevel StrictSerializable c
NotNext strict c (Some StrictSerializable) = Unit {0}

-- so no level that implies it holds
not_uncommitted : (c : Clients) → ¬ IsOfLevel ReadUncommitted c → ¬ IsOfLevel ReadCommitted c
not_uncommitted c fails is = fails (committed_uncommitted_of c is)

not_committed : (c : Clients) → ¬ IsOfLevel ReadCommitted c → ¬ IsOfLevel SnapshotIsolation c
not_committed c fails is = fails (snapshot_committed_of c is)

not_snapshot : (c : Clients) → ¬ IsOfLevel SnapshotIsolation c → ¬ IsOfLevel Serializable c
not_snapshot c fails is = fails (snapshot_holds c is)

not_serial : (c : Clients) → ¬ IsOfLevel Serializable c → ¬ IsOfLevel StrictSerializable c
not_serial c fails is = fails (strict_serial c is)

none_stronger : (strict : Bool) (c : Clients) (strongest : Option Level) → NotNext strict c strongest → NoStronger strict c strongest
none_stronger strict c None fails ReadUncommitted above keeps = fails
none_stronger strict c None fails ReadCommitted above keeps = not_uncommitted c fails
none_stronger strict c None fails SnapshotIsolation above keeps = not_committed c (not_uncommitted c fails)
none_stronger strict c None fails Serializable above keeps = not_snapshot c (not_committed c (not_uncommitted c fails))
none_stronger strict c None fails StrictSerializable above keeps = not_serial c (not_snapshot c (not_committed c (not_uncommitted c fails)))
none_stronger strict c (Some ReadUncommitted) fails ReadUncommitted above keeps = absurd (omega (arith, above))
none_stronger strict c (Some ReadUncommitted) fails ReadCommitted above keeps = fails
none_stronger strict c (Some ReadUncommitted) fails SnapshotIsolation above keeps = not_committed c fails
none_stronger strict c (Some ReadUncommitted) fails Serializable above keeps = not_snapshot c (not_committed c fails)
none_stronger strict c (Some ReadUncommitted) fails StrictSerializable above keeps = not_serial c (not_snapshot c (not_committed c fails))
none_stronger strict c (Some ReadCommitted) fails ReadUncommitted above keeps = absurd (omega (arith, above))
none_stronger strict c (Some ReadCommitted) fails ReadCommitted above keeps = absurd (omega (arith, above))
none_stronger strict c (Some ReadCommitted) fails SnapshotIsolation above keeps = fails
none_stronger strict c (Some ReadCommitted) fails Serializable above keeps = not_snapshot c fails
none_stronger strict c (Some ReadCommitted) fails StrictSerializable above keeps = not_serial c (not_snapshot c fails)
none_stronger strict c (Some SnapshotIsolation) fails ReadUncommitted above keeps = absurd (omega (arith, above))
none_stronger strict c (Some SnapshotIsolation) fails ReadCommitted above keeps = absurd (omega (arith, above))
none_stronger strict c (Some SnapshotIsolation) fails SnapshotIsolation above keeps = absurd (omega (arith, above))
none_stronger strict c (Some SnapshotIsolation) fails Serializable above keeps = fails
none_stronger strict c (Some SnapshotIsolation) fails StrictSerializable above keeps = not_serial c fails
none_stronger strict c (Some Serializable) fails ReadUncommitted above keeps = absurd (omega (arith, above))
none_stronger strict c (Some Serializable) fails ReadCommitted above keeps = absurd (omega (arith, above))
none_stronger strict c (Some Serializable) fails SnapshotIsolation above keeps = absurd (omega (arith, above))
none_stronger strict c (Some Serializable) fails Serializable above keeps = absurd (omega (arith, above))
none_stronger strict c (Some Serializable) fails StrictSerializable above keeps = fails (keeps refl)
none_stronger strict c (Some StrictSerializable) fails ReadUncommitted above keeps = absurd (omega (arith, above))
none_stronger strict c (Some StrictSerializable) fails ReadCommitted above keeps = absurd (omega (arith, above))
none_stronger strict c (Some StrictSerializable) fails SnapshotIsolation above keeps = absurd (omega (arith, above))
none_stronger strict c (Some StrictSerializable) fails Serializable above keeps = absurd (omega (arith, above))
none_stronger strict c (Some StrictSerializable) fails StrictSerializable above keeps = absurd (omega (arith, above))

-- a level whose answer is neither yes nor undecided does not hold; those of serial orders are never undecided
not_holds : (level : Level) (c : Clients) (a : Answer) → IsAnswer level c a → is_yes a ≡ false → is_undecided a ≡ false
    → ¬ IsOfLevel level c
not_holds level c Yes right fails decided = absurd (cc)
not_holds level c No right fails decided = right
not_holds level c Undecided right fails decided = absurd (cc)

serial_not_holds : (c : Clients) (a : Answer) → IsAnswer Serializable c a → is_yes a ≡ false → ¬ IsOfLevel Serializable c
serial_not_holds c Yes right fails = absurd (cc)
serial_not_holds c No right fails = right
serial_not_holds c Undecided right fails = absurd (right.0 refl)

strict_not_holds : (c : Clients) (a : Answer) → IsAnswer StrictSerializable c a → is_yes a ≡ false → ¬ IsOfLevel StrictSerializable c
strict_not_holds c Yes right fails = absurd (cc)
strict_not_holds c No right fails = right
strict_not_holds c Undecided right fails = absurd (right.1 refl)

second_false : (a b : Bool) → (a && b) ≡ false → a ≡ true → b ≡ false
second_false true b is a_is = is
second_false false b is a_is = absurd (cc)

-- of the first of the levels that is picked, or of the rest
choose : (P : Option Level → Type 0) (b : Bool) (level : Level) (rest : Option Level) → P (Some level) → (b ≡ false → P rest)
    → P (if b then Some level else rest)
choose P true level rest here there = here
choose P false level rest here there = there refl

-- if the level after the strongest one is decided, it does not hold
next_fails : (strict : Bool) (c : Clients) (f : LevelFindings) → AreFound strict c f → is_at_least f (strongest_of strict f) ≡ false
    → NotNext strict c (strongest_of strict f)
next_fails strict c f found =
    let P = λ (s : Option Level). is_at_least f s ≡ false → NotNext strict c s in
    choose P (strict && is_yes (answer_of f StrictSerializable)) StrictSerializable _ (λ _. tt) (λ no_strict.
    choose P (is_yes (answer_of f Serializable)) Serializable _
    (λ _ keeps. strict_not_holds c (answer_of f StrictSerializable) (answers_right strict c f StrictSerializable found (λ _. keeps))
    (second_false strict (is_yes (answer_of f StrictSerializable)) no_strict keeps)) (λ no_serial.
    choose P (is_yes (answer_of f SnapshotIsolation)) SnapshotIsolation _
    (λ _. serial_not_holds c (answer_of f Serializable) (answers_right strict c f Serializable found (λ is. absurd (cc))) no_serial)
    (λ no_snapshot.
    choose P (is_yes (answer_of f ReadCommitted)) ReadCommitted _
    (not_holds SnapshotIsolation c (answer_of f SnapshotIsolation)
    (answers_right strict c f SnapshotIsolation found (λ is. absurd (cc))) no_snapshot) (λ no_committed.
    choose P (is_yes (answer_of f ReadUncommitted)) ReadUncommitted None
    (not_holds ReadCommitted c (answer_of f ReadCommitted) (answers_right strict c f ReadCommitted found (λ is. absurd (cc)))
    no_committed) (not_holds ReadUncommitted c (answer_of f ReadUncommitted)
    (answers_right strict c f ReadUncommitted found (λ is. absurd (cc))))))))

-- and then no stronger one does
pub strongest_is : (strict : Bool) (c : Clients) (f : LevelFindings) → AreFound strict c f → is_at_least f (strongest_of strict f) ≡ false
    → NoStronger strict c (strongest_of strict f)
strongest_is strict c f found decided = none_stronger strict c (strongest_of strict f) (next_fails strict c f found decided)

-- a question for the strict level keeps real time
pub level_keeps : (strict : Bool) (level : Level) → is_strict level ≡ true → (strict || is_strict level) ≡ true
level_keeps true level is = refl
level_keeps false level is = is
