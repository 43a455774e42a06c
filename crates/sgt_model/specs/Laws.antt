-- The laws of every legal history, each by name. The serializability theorem (Bernstein, Hadzilacos and Goodman
-- (1987), chapter 2) holds here of one serial order that is known beforehand: commit order.
use Rattle.std.specs.Prelude.{◌≡◌, ℕ, ◌<◌, ◌≤◌, true, false, nat_eq, List, [], ◌∷◌, length, Option, Some, None}
use Rattle.sgt_model.specs.declared.event.Event.{Event}
use Rattle.sgt_model.specs.declared.reply.Reply.{Reply}
use Rattle.sgt_model.specs.declared.reply.Reply.TheVariants as reply
use Rattle.sgt_model.specs.declared.entry.Entry.{Entry}
use Rattle.sgt_model.specs.declared.kind.Kind.TheVariants.{Look}
use Rattle.sgt_model.specs.Contents.{Key, Contents}
use Rattle.sgt_model.specs.Paths.{Acyclic}
use Rattle.sgt_model.specs.Runs.{Run}
use Rattle.sgt_model.specs.Traces.{RunIsTrace}
use Rattle.sgt_model.specs.Accesses.{Access, access_of}
use Rattle.sgt_model.specs.Fates.{subject, start_count, live, live_ones, aborted, committed}
use Rattle.sgt_model.specs.Values.{newest_store, value_or, settled}
use Rattle.sgt_model.specs.ReadFrom.{ReadFrom}
use Rattle.sgt_model.specs.Questions.{named_by, started_in, over_in, is_ending}
use Rattle.sgt_model.specs.Pairs.{Pair}
use Rattle.sgt_model.specs.Configurations.{Configuration}
use Rattle.sgt_model.specs.Legality.{Legal}
use Rattle.sgt_model.specs.Admissions.{AreAdmitted}
use Rattle.sgt_model.specs.Replay.{reported_calls, ReplayAgrees}
use Rattle.sgt_model.specs.CommitOrder.{CommitsBefore, last_store, CommitsInOrder, CommitOrderIsTotal}
use Rattle.sgt_model.specs.Aborts.{AbortsHaveCause}
use Rattle.sgt_model.specs.Headline.{Headline}

-- what holds of every legal history
abbrev pub InEach : (Configuration → List Entry → Type 0) → Type 0
InEach P = (s : Configuration) (past : List Entry) → Legal s past → P s past

-- no edge leads from a live to a committed transaction
abbrev pub NoPairFromLive : Type 0
NoPairFromLive = InEach (λ s past. (t u : ℕ) → live past t ≡ true → committed past u ≡ true → Pair past t u → ⊥)

-- committed writers of a key committed in the order of their last writes of it
abbrev pub WritersCommitInOrder : Type 0
WritersCommitInOrder = InEach (λ s past. (k : Key) (t u p q : ℕ) → committed past t ≡ true → committed past u ≡ true → last_store past k t ≡ Some p → last_store past k u ≡ Some q → p < q → CommitsBefore past t u)

-- a transaction that is not aborted has read only from transactions that are not aborted
abbrev pub SourcesStand : Type 0
SourcesStand = InEach (λ s past. (t u : ℕ) → aborted past t ≡ false → ReadFrom past t u → aborted past u ≡ false)

-- a committed transaction has read only from transactions that are committed, and committed earlier
abbrev pub SourcesCommitFirst : Type 0
SourcesCommitFirst = InEach (λ s past. (t u : ℕ) → committed past t ≡ true → ReadFrom past t u → (committed past u ≡ true) × CommitsBefore past u t)

-- a read by t returned t's own newest value of the key before it or, if t had none, the value in `now`
abbrev pub LookAgrees : Contents → ℕ → List Entry → Option Access → Type 0
LookAgrees now t older None = Unit {0}
LookAgrees now t older (Some a) = a.by ≡ t → a.kind ≡ Look → a.value ≡ value_or (newest_store (λ u. nat_eq u t) a.key older) (now a.key)

-- each read by t did so
abbrev pub LooksAgree : Contents → ℕ → List Entry → Type 0
LooksAgree now t [] = Unit {0}
LooksAgree now t (e ∷ older) = LooksAgree now t older × LookAgrees now t older (access_of e)

-- at a Committed or Refused entry, each read of its transaction agrees with what was committed just before
abbrev pub CommitAgrees : Configuration → List Entry → Event → Reply → Type 0
CommitAgrees s past event (reply.Committed answers) = LooksAgree (settled s.opening past) (subject event) past
CommitAgrees s past event (reply.Refused code fell) = LooksAgree (settled s.opening past) (subject event) past
CommitAgrees s past event _ = Unit {0}

-- this holds at each entry
abbrev pub CommitsAgree : Configuration → List Entry → Type 0
CommitsAgree s [] = Unit {0}
CommitsAgree s (e ∷ past) = CommitsAgree s past × CommitAgrees s past e.event e.reply

-- consider a Committed or Refused entry, and a value that its transaction read. It is the transaction's own last one of that
-- key before the read or, if it had none, the one that was committed just before the entry
abbrev pub LooksAgreeAtCommit : Type 0
LooksAgreeAtCommit = InEach CommitsAgree

-- a transaction that commits or is refused has read only from transactions that were committed before
abbrev pub SourcesAreCommitted : Configuration → List Entry → Event → Reply → Type 0
SourcesAreCommitted s past event (reply.Committed answers) = (u : ℕ) → ReadFrom past (subject event) u → committed past u ≡ true
SourcesAreCommitted s past event (reply.Refused code fell) = (u : ℕ) → ReadFrom past (subject event) u → committed past u ≡ true
SourcesAreCommitted s past event _ = Unit {0}

-- this holds at each entry
abbrev pub AllSourcesAreCommitted : Configuration → List Entry → Type 0
AllSourcesAreCommitted s [] = Unit {0}
AllSourcesAreCommitted s (e ∷ past) = AllSourcesAreCommitted s past × SourcesAreCommitted s past e.event e.reply

-- at each Committed or Refused entry, the transaction has read only from transactions that are committed already
abbrev pub SourcesCommitBeforeReplies : Type 0
SourcesCommitBeforeReplies = InEach AllSourcesAreCommitted

-- a run at once is its trace
abbrev pub RunsAreTraces : Type 0
RunsAreTraces = (r : Run) → RunIsTrace r

-- the serialization graph has no cycle
abbrev pub PairsHaveNoCycle : Type 0
PairsHaveNoCycle = InEach (λ s past. Acyclic (Pair past))

-- the committed and refused transactions, run one after another, give the answers and codes that were reported, and the
-- committed values
abbrev pub ReplayIsSerial : Type 0
ReplayIsSerial = InEach ReplayAgrees

-- each abort has its cause
abbrev pub AbortsAlwaysHaveCause : Type 0
AbortsAlwaysHaveCause = InEach AbortsHaveCause

-- commit order agrees with the edges and with who read from whom
abbrev pub CommitsAlwaysInOrder : Type 0
CommitsAlwaysInOrder = InEach (λ s past. CommitsInOrder past)

-- commit order is a strict total order of the committed transactions
abbrev pub CommitsAlwaysInLine : Type 0
CommitsAlwaysInLine = InEach (λ s past. CommitOrderIsTotal past)

-- a committed or refused transaction was started with a procedure of the configuration, and with as many arguments as it
-- takes, each a value
abbrev pub CommittedAreAdmitted : Type 0
CommittedAreAdmitted = InEach (λ s past. AreAdmitted s (reported_calls past))

-- no more transactions are started, or live at once, than the limits allow
abbrev pub LimitsAreKept : Type 0
LimitsAreKept = InEach (λ s past. (start_count past ≤ s.rules.limits.begins) × (length (live_ones past) ≤ s.rules.limits.live))

-- the transaction that an entry starts is live after it
abbrev pub StartedAreLive : Type 0
StartedAreLive = (s : Configuration) (past : List Entry) (e : Entry) → Legal s (e ∷ past) → (t : ℕ) → started_in e.event e.reply ≡ Some t → live (e ∷ past) t ≡ true

-- the transaction that an entry reports to be over is not live after it
abbrev pub OverAreNotLive : Type 0
OverAreNotLive = (s : Configuration) (past : List Entry) (e : Entry) → Legal s (e ∷ past) → (t : ℕ) → over_in e.event e.reply ≡ Some t → live (e ∷ past) t ≡ false

-- a reply that ends a live transaction ends the one that its event names: it is live before the entry, and not after it
abbrev pub EndingsEndOne : Type 0
EndingsEndOne = (s : Configuration) (past : List Entry) (e : Entry) → Legal s (e ∷ past) → is_ending e.reply ≡ true → (t : ℕ) × (named_by e.event ≡ Some t) × (live past t ≡ true) × (live (e ∷ past) t ≡ false)

-- with any other reply, all live transactions stay live
abbrev pub OthersEndNone : Type 0
OthersEndNone = (past : List Entry) (e : Entry) → is_ending e.reply ≡ false → (t : ℕ) → live past t ≡ true → live (e ∷ past) t ≡ true

-- the headline holds of every legal history
abbrev pub HeadlineHolds : Type 0
HeadlineHolds = InEach Headline
