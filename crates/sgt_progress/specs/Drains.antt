-- How many events are left until nothing is live: procedures have no loops, so each has a longest path.
use Rattle.std.specs.Prelude.{◌≡◌, ℕ, zero, suc, ◌+◌, ◌-◌, ◌*◌, ◌≤◌, Bool, true, false, not, cond, ◌⊎◌, List, [], ◌∷◌, ◌++◌, length}
use Rattle.std.specs.Option.{is_none}
use Rattle.sgt_model.specs.declared.event.Event.{Event}
use Rattle.sgt_model.specs.declared.event.Event.TheVariants.{Access}
use Rattle.sgt_model.specs.declared.reply.Reply.{Reply}
use Rattle.sgt_model.specs.declared.entry.Entry.{Entry}
use Rattle.sgt_model.specs.Accesses.{access_in}
use Rattle.sgt_model.specs.Fates.{is_start, live, live_ones}
use Rattle.sgt_model.specs.Configurations.{Configuration}
use Rattle.sgt_model.specs.Progress.{call_of, made}
use Rattle.sgt_model.specs.Legality.{Legal, LegalReply}
use Rattle.sgt_model.specs.Laws.{InEach}
use Rattle.sgt_proc.specs.LongestPaths.{most_accesses}
use Rattle.sgt_progress.specs.Moves.{next_event, has_moved}
use Rattle.sgt_progress.specs.Alone.{NoneLive, IsAlone, IsStepOrCommitOf}

-- how many accesses t's procedure can still make at most: those on its longest path, less those that t has made
abbrev pub accesses_left : Configuration → List Entry → ℕ → ℕ
accesses_left s past t = most_accesses (s.rules.procedures (call_of past t).procedure) - made past t

-- the sum of f over a list
abbrev pub total : (ℕ → ℕ) → List ℕ → ℕ
total f [] = 0
total f (t ∷ l) = f t + total f l

-- over all live transactions: the accesses that the procedure of each can still make, and its end
abbrev pub events_left : Configuration → List Entry → ℕ
events_left s past = total (λ t. accesses_left s past t + 1) (live_ones past)

-- how many entries made an access or ended a transaction
abbrev pub moves : List Entry → ℕ
moves [] = 0
moves (e ∷ past) = cond (has_moved e.event e.reply) (moves past + 1) (moves past)

-- an event with this reply makes an access on which a caller decided
abbrev pub makes_request : Event → Reply → Bool
makes_request (Access t d) r = not (is_none (access_in (Access t d) r))
makes_request _ r = false

-- how many entries did: their number has no bound, for a caller may go on
abbrev pub requests_made : List Entry → ℕ
requests_made [] = 0
requests_made (e ∷ past) = cond (makes_request e.event e.reply) (requests_made past + 1) (requests_made past)

-- none of the entries starts a transaction
abbrev pub StartNone : List Entry → Type 0
StartNone [] = Unit {0}
StartNone (e ∷ past) = (is_start e.reply ≡ false) × StartNone past

-- No livelock: if no transaction is started, accesses and ends together are at most `events_left` and those accesses on which
-- callers decided, whatever events come in whatever order
abbrev pub MovesAreFew : Type 0
MovesAreFew = InEach (λ s past. (later : List Entry) → Legal s (later ++ past) → StartNone later → moves later + events_left s (later ++ past) ≤ events_left s past + requests_made later)

-- Nothing is live after at most this many events, whatever the replies: nothing is live now, or there is a live
-- transaction whose next event, with any legal reply, leaves one event less. These events are steps and commits: what a
-- caller may still want is none of them, and a transaction whose caller has decided on accesses is at its procedure's
-- end, so only its commit is left
abbrev pub DrainsWithin : ℕ → Configuration → List Entry → Type 0
DrainsWithin zero s past = NoneLive past
DrainsWithin (suc n) s past = NoneLive past ⊎ ((t : ℕ) × (live past t ≡ true) × ((r : Reply) → LegalReply s past (next_event s past t) r
    → DrainsWithin n s (record { event = next_event s past t; reply = r } ∷ past)))

-- from each legal history
abbrev pub HistoriesDrain : Type 0
HistoriesDrain = InEach (λ s past. DrainsWithin (events_left s past) s past)

-- each entry is a step or a commit of some transaction
abbrev pub AreStepsAndCommits : List Entry → Type 0
AreStepsAndCommits [] = Unit {0}
AreStepsAndCommits (e ∷ past) = ((t : ℕ) × IsStepOrCommitOf e.event t) × AreStepsAndCommits past

-- a legal history continues by at most this many steps and commits, after which nothing is live
abbrev pub SomeStepsDrain : Type 0
SomeStepsDrain = InEach (λ s past. (later : List Entry) × Legal s (later ++ past) × AreStepsAndCommits later × (length later ≤ events_left s past) × NoneLive (later ++ past))

-- t has ended after at most this many of its next events, whatever the replies
abbrev pub EndsWithin : ℕ → Configuration → List Entry → ℕ → Type 0
EndsWithin zero s past t = live past t ≡ false
EndsWithin (suc n) s past t = (live past t ≡ false) ⊎ ((r : Reply) → LegalReply s past (next_event s past t) r
    → EndsWithin n s (record { event = next_event s past t; reply = r } ∷ past) t)

-- the only live transaction ends within the accesses that its procedure can still make, and one event more
abbrev pub AloneEnds : Type 0
AloneEnds = InEach (λ s past. (t : ℕ) → IsAlone past t → EndsWithin (accesses_left s past t + 1) s past t)

-- if no procedure makes more than `most` accesses, there are at most this many events for each transaction that may be
-- live
abbrev pub EventsLeftAreFew : Type 0
EventsLeftAreFew = InEach (λ s past. (most : ℕ) → ((n : ℕ) → most_accesses (s.rules.procedures n) ≤ most) → events_left s past ≤ s.rules.limits.live * (most + 1))
