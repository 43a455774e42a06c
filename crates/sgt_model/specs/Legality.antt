-- Which reply an event may get after a history, and which histories are legal. A step follows basic serialization
-- graph testing (Bernstein, Hadzilacos and Goodman (1987), chapter 4); a commit waits for live predecessors (Durner and
-- Neumann, ICDE 2019).
use Rattle.std.specs.Prelude.{◌≡◌, ℕ, ℤ, Bool, true, false, ◌⊎◌, nat_lt, List, [], ◌∷◌, length, Option, Some, None}
use Rattle.sgt_model.specs.declared.event.Event.{Event}
use Rattle.sgt_model.specs.declared.event.Event.TheVariants.{Start, Step, Access, Commit, Quit}
use Rattle.sgt_model.specs.declared.event.Request.{Request}
use Rattle.sgt_model.specs.declared.reply.Reply.{Reply}
use Rattle.sgt_model.specs.declared.reply.Reply.TheVariants as reply
use Rattle.sgt_model.specs.declared.reply.Cause.{Cause}
use Rattle.sgt_model.specs.declared.reply.Cause.TheVariants as cause
use Rattle.sgt_model.specs.declared.reply.Fate.{Fate}
use Rattle.sgt_model.specs.declared.entry.Entry.{Entry}
use Rattle.sgt_model.specs.declared.kind.Kind.{Kind}
use Rattle.sgt_model.specs.declared.kind.Kind.TheVariants.{Look, Store}
use Rattle.sgt_model.specs.declared.limits.Asks.{Asks}
use Rattle.sgt_model.specs.declared.limits.Asks.TheVariants.{AtStep, AtCommit}
use Rattle.sgt_model.specs.Contents.{Key}
use Rattle.sgt_model.specs.Traces.{Next, Looks, Puts, Ends, Raises}
use Rattle.sgt_model.specs.Fates.{start_count, fate_of, live, live_ones}
use Rattle.sgt_model.specs.Values.{visible}
use Rattle.sgt_model.specs.Falls.{Falls}
use Rattle.sgt_model.specs.Pairs.{Pair}
use Rattle.sgt_model.specs.Closes.{Closes}
use Rattle.sgt_model.specs.Paths.{IsLeastPredecessor, HasNoPredecessor}
use Rattle.sgt_model.specs.Configurations.{Configuration}
use Rattle.sgt_model.specs.Progress.{next_of, requested, is_fit}
use Rattle.sgt_model.specs.StartReply.{start_reply}

-- a step

-- t is aborted, with those aborted in cascade
pub record AbortReply (past : List Entry) (t : ℕ) (why : Cause) (r : Reply) : Type 0 where
  pub fell : List ℕ
  pub falls : Falls past t fell
  pub is : r ≡ reply.Aborted why fell

-- an access that would close a cycle is rejected: t is aborted, and the reply names such a cycle
pub record CycleAbortReply (past : List Entry) (t : ℕ) (k : Key) (kind : Kind) (r : Reply) : Type 0 where
  pub rest : List ℕ
  pub closes : Closes past t k kind rest
  pub aborts : AbortReply past t (cause.Cycle (t ∷ rest)) r

-- an access that closes no cycle is made
pub record Makes (past : List Entry) (t : ℕ) (k : Key) (kind : Kind) (made_reply r : Reply) : Type 0 where
  pub free : (rest : List ℕ) → Closes past t k kind rest → ⊥
  pub is : r ≡ made_reply

-- a step that raises a code is answered at once, or left to the commit
abbrev pub RaisedStep : Asks → List Entry → ℕ → ℕ → Reply → Type 0
RaisedStep AtStep past t code r = AbortReply past t (cause.Asked code) r
RaisedStep AtCommit past t code r = r ≡ reply.Ended

-- the reply to a step of a live transaction, by what its procedure does next
abbrev pub StepReply : Configuration → List Entry → ℕ → Next → Reply → Type 0
StepReply s past t (Looks k) r = CycleAbortReply past t k Look r ⊎ Makes past t k Look (reply.Looked k (visible s.opening past k)) r
StepReply s past t (Puts k v) r = CycleAbortReply past t k Store r ⊎ Makes past t k Store (reply.Wrote k v) r
StepReply s past t (Ends answers) r = r ≡ reply.Ended
StepReply s past t (Raises code) r = RaisedStep s.rules.limits.asks past t code r

-- an access on which the caller decides

-- what is written has to be a value, or none
abbrev pub OfFit : Bool → Reply → Type 0 → Type 0
OfFit true r if_fit = if_fit
OfFit false r if_fit = r ≡ reply.BadArgs

-- the reply to an access on which the caller of a live transaction decides: its procedure has to be at its end. It is then as a
-- step whose next is that access
abbrev pub RequestReply : Configuration → List Entry → ℕ → Request → Next → Reply → Type 0
RequestReply s past t d (Ends answers) r = OfFit (is_fit d) r (StepReply s past t (requested d) r)
RequestReply s past t d (Looks k) r = r ≡ reply.NotEnded
RequestReply s past t d (Puts k v) r = r ≡ reply.NotEnded
RequestReply s past t d (Raises code) r = r ≡ reply.NotEnded

-- a commit

-- t is a live predecessor of u: it is live, and has an edge to u
pub record LivePredecessor (past : List Entry) (t u : ℕ) : Type 0 where
  pub is_live : live past t ≡ true
  pub pair : Pair past t u

-- no live transaction has an edge to t
abbrev pub HasNoLivePredecessor : List Entry → ℕ → Type 0
HasNoLivePredecessor past t = HasNoPredecessor (LivePredecessor past) t

-- t must wait for its least live predecessor
pub record MustWait (past : List Entry) (t : ℕ) (r : Reply) : Type 0 where
  pub predecessor : ℕ
  pub least : IsLeastPredecessor (LivePredecessor past) t predecessor
  pub is : r ≡ reply.Waits predecessor

-- t has no live predecessor, and commits with its answers
pub record MayCommit (past : List Entry) (t : ℕ) (answers : List ℤ) (r : Reply) : Type 0 where
  pub none_live : HasNoLivePredecessor past t
  pub is : r ≡ reply.Committed answers

-- t has no live predecessor, and is refused with its code
pub record MayRefuse (past : List Entry) (t code : ℕ) (r : Reply) : Type 0 where
  pub none_live : HasNoLivePredecessor past t
  pub fell : List ℕ
  pub falls : Falls past t fell
  pub is : r ≡ reply.Refused code fell

-- a commit of a transaction that raises a code: the code was reported at its step, or it is reported now, and the commit
-- waits as every commit does
abbrev pub RaisedCommit : Asks → List Entry → ℕ → ℕ → Reply → Type 0
RaisedCommit AtStep past t code r = r ≡ reply.NotEnded
RaisedCommit AtCommit past t code r = MustWait past t r ⊎ MayRefuse past t code r

-- the reply to a commit of a live transaction, by what its procedure does next
abbrev pub CommitReply : Configuration → List Entry → ℕ → Next → Reply → Type 0
CommitReply s past t (Ends answers) r = MustWait past t r ⊎ MayCommit past t answers r
CommitReply s past t (Looks k) r = r ≡ reply.NotEnded
CommitReply s past t (Puts k v) r = r ≡ reply.NotEnded
CommitReply s past t (Raises code) r = RaisedCommit s.rules.limits.asks past t code r

-- every event

-- the reply to an event of a started transaction, by how that ended
abbrev pub OfEnded : Option Fate → Reply → Type 0 → Type 0
OfEnded None r if_live = if_live
OfEnded (Some f) r if_live = r ≡ reply.Over f

-- the reply to an event of a transaction, by whether that was started
abbrev pub OfStarted : Bool → Option Fate → Reply → Type 0 → Type 0
OfStarted true ended r if_live = OfEnded ended r if_live
OfStarted false ended r if_live = r ≡ reply.Unknown

-- what the events of a transaction share: Unknown if it was not started, Over with its fate if it has ended, or else the
-- reply to a live one
abbrev pub OfLive : List Entry → ℕ → Reply → Type 0 → Type 0
OfLive past t r if_live = OfStarted (nat_lt t (start_count past)) (fate_of past t) r if_live

-- the event may get this reply after the history
abbrev pub LegalReply : Configuration → List Entry → Event → Reply → Type 0
LegalReply s past (Start p args) r = r ≡ start_reply s.rules (start_count past) (length (live_ones past)) p args
LegalReply s past (Step t) r = OfLive past t r (StepReply s past t (next_of s past t) r)
LegalReply s past (Access t d) r = OfLive past t r (RequestReply s past t d (next_of s past t) r)
LegalReply s past (Commit t) r = OfLive past t r (CommitReply s past t (next_of s past t) r)
LegalReply s past (Quit t) r = OfLive past t r (AbortReply past t cause.Quit r)

-- each entry's reply is legal after the entries before it
abbrev pub Legal : Configuration → List Entry → Type 0
Legal s [] = Unit {0}
Legal s (e ∷ past) = Legal s past × LegalReply s past e.event e.reply
