-- Which event moves a transaction on, and that not all can wait.
use Rattle.std.specs.Prelude.{◌≡◌, ℕ, ℤ, Bool, true, not, ◌||◌, ◌⊎◌, List}
use Rattle.std.specs.Option.{is_none}
use Rattle.sgt_model.specs.declared.event.Event.{Event}
use Rattle.sgt_model.specs.declared.event.Event.TheVariants.{Step, Access, Commit}
use Rattle.sgt_model.specs.declared.event.Request.{Request}
use Rattle.sgt_model.specs.declared.reply.Reply.{Reply}
use Rattle.sgt_model.specs.declared.reply.Reply.TheVariants as reply
use Rattle.sgt_model.specs.declared.entry.Entry.{Entry}
use Rattle.sgt_model.specs.declared.limits.Asks.{Asks}
use Rattle.sgt_model.specs.declared.limits.Asks.TheVariants.{AtStep, AtCommit}
use Rattle.sgt_model.specs.Paths.{Reaches, Acyclic}
use Rattle.sgt_model.specs.Traces.{Next, Looks, Puts, Ends, Raises}
use Rattle.sgt_model.specs.Accesses.{access_in}
use Rattle.sgt_model.specs.Fates.{live}
use Rattle.sgt_model.specs.Questions.{is_ending}
use Rattle.sgt_model.specs.Pairs.{Pair}
use Rattle.sgt_model.specs.Configurations.{Configuration}
use Rattle.sgt_model.specs.Progress.{is_fit, next_of}
use Rattle.sgt_model.specs.Legality.{LegalReply, MustWait}
use Rattle.sgt_model.specs.Laws.{InEach}

-- a code is reported at the step, or at the commit
abbrev pub event_of_code : Asks → ℕ → Event
event_of_code AtStep t = Step t
event_of_code AtCommit t = Commit t

-- the event that t needs for what its procedure does next: a step for an access, and a commit for its end
abbrev pub event_for : Asks → ℕ → Next → Event
event_for asks t (Looks k) = Step t
event_for asks t (Puts k v) = Step t
event_for asks t (Ends answers) = Commit t
event_for asks t (Raises code) = event_of_code asks t

-- t's next event
abbrev pub next_event : Configuration → List Entry → ℕ → Event
next_event s past t = event_for s.rules.limits.asks t (next_of s past t)

-- an event with this reply moves its transaction on: it is an access, or ends it
abbrev pub has_moved : Event → Reply → Bool
has_moved event r = not (is_none (access_in event r)) || is_ending r

-- whatever legal reply its next event gets, t makes an access or ends
abbrev pub CanMove : Configuration → List Entry → ℕ → Type 0
CanMove s past t = (r : Reply) → LegalReply s past (next_event s past t) r → has_moved (next_event s past t) r ≡ true

-- the next event of a live transaction moves it on, or waits for its least live predecessor
abbrev pub NextMovesOrWaits : Type 0
NextMovesOrWaits = InEach (λ s past. (t : ℕ) → live past t ≡ true → (r : Reply) → LegalReply s past (next_event s past t) r → (has_moved (next_event s past t) r ≡ true) ⊎ MustWait past t r)

-- an access on which the caller of a live transaction decided, at its procedure's end, moves it on: it never waits. What it writes
-- has to be a value, or none
abbrev pub RequestedMoves : Type 0
RequestedMoves = InEach (λ s past. (t : ℕ) → live past t ≡ true → (answers : List ℤ) → next_of s past t ≡ Ends answers → (d : Request) → is_fit d ≡ true
    → (r : Reply) → LegalReply s past (Access t d) r → has_moved (Access t d) r ≡ true)

-- No deadlock: each live transaction can move on, or some live one from which edges lead to it can
abbrev pub NoDeadlock : Type 0
NoDeadlock = InEach (λ s past. (t : ℕ) → live past t ≡ true → (u : ℕ) × (live past u ≡ true) × Reaches (Pair past) u t × CanMove s past u)

-- the live t waits for u: its next event may be answered so
pub record WaitsFor (s : Configuration) (past : List Entry) (t u : ℕ) : Type 0 where
  pub is_live : live past t ≡ true
  pub reported : LegalReply s past (next_event s past t) (reply.Waits u)

-- who is waited for is live, and has an edge to the one that waits; and the graph of who waits for whom has no cycle
pub record WaitsAreSound (s : Configuration) (past : List Entry) : Type 0 where
  pub for_live : (t u : ℕ) → WaitsFor s past t u → (live past u ≡ true) × Pair past u t
  pub no_cycle : Acyclic (WaitsFor s past)

-- in each legal history: no deadlock, in the textbook's words (Bernstein, Hadzilacos and Goodman (1987), chapter 3)
abbrev pub NoWaitCycle : Type 0
NoWaitCycle = InEach WaitsAreSound
