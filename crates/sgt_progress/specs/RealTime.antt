-- Strict serializability (Papadimitriou (1979); Herlihy and Wing (1990)): a serial order that keeps real time. Of two
-- transactions, if the commit or refusal of one was reported before the other was started, it comes first in the order.
use Rattle.std.specs.Prelude.{◌≡◌, ℕ, ◌⊎◌, List, [], ◌∷◌, ◌++◌, map, Some}
use Rattle.sgt_model.specs.declared.event.Event.{Event}
use Rattle.sgt_model.specs.declared.reply.Reply.{Reply}
use Rattle.sgt_model.specs.declared.reply.Reply.TheVariants as reply
use Rattle.sgt_model.specs.declared.entry.Entry.{Entry}
use Rattle.sgt_model.specs.Paths.{Member, Distinct, StandsBefore}
use Rattle.sgt_model.specs.Fates.{subject}
use Rattle.sgt_model.specs.Configurations.{Configuration}
use Rattle.sgt_model.specs.Progress.{Call, call_of, caller_accesses, with_caller_accesses}
use Rattle.sgt_model.specs.Questions.{started_in}
use Rattle.sgt_model.specs.Replay.{reported_calls, ReplayAgrees}
use Rattle.sgt_model.specs.Laws.{InEach}

-- the transaction that an entry commits or refuses, if it does
abbrev pub reported_one_in : Event → Reply → List ℕ
reported_one_in event (reply.Committed answers) = subject event ∷ []
reported_one_in event (reply.Refused code fell) = subject event ∷ []
reported_one_in event _ = []

-- the committed and refused transactions, the last reply first
abbrev pub reported_ones : List Entry → List ℕ
reported_ones [] = []
reported_ones (e ∷ past) = reported_one_in e.event e.reply ++ reported_ones past

-- the commit or refusal of t was reported before u was started
abbrev pub EndsBeforeStart : List Entry → ℕ → ℕ → Type 0
EndsBeforeStart [] t u = ⊥
EndsBeforeStart (e ∷ past) t u = ((started_in e.event e.reply ≡ Some u) × Member t (reported_ones past)) ⊎ EndsBeforeStart past t u

-- the call of t, with the accesses that its caller has made
abbrev pub whole_call : List Entry → ℕ → Call
whole_call past t = with_caller_accesses (caller_accesses past t) (call_of past t)

-- Strictly serializable. The replay runs the calls of these transactions, each once with its caller's accesses, in this order
-- (the last one first). It gives what was reported, and leaves the committed values. If t ended before u was started, t comes before u
pub record KeepsRealTime (s : Configuration) (past : List Entry) : Type 0 where
  pub once : Distinct (reported_ones past)
  pub calls : reported_calls past ≡ map (whole_call past) (reported_ones past)
  pub replay : ReplayAgrees s past
  pub real_time : (t u : ℕ) → EndsBeforeStart past t u → Member u (reported_ones past) → StandsBefore u t (reported_ones past)

-- each legal history is
abbrev pub ReplayKeepsRealTime : Type 0
ReplayKeepsRealTime = InEach KeepsRealTime
