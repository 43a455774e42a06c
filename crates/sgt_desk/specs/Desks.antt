-- What threads know of a desk, which reasons to rest hold, and when all that rest have to be woken.
use Rattle.std.specs.Prelude.{◌≡◌, ◌⊎◌, ℕ, ◌+◌, ◌-◌, Bool, true, false, not, cond, ◌&&◌, ◌||◌, nat_eq, nat_lt, List, [], length}
use Rattle.sgt_model.specs.declared.entry.Entry.{Entry}
use Rattle.sgt_model.specs.declared.event.Event.{Event}
use Rattle.sgt_model.specs.declared.short_reply.ShortReply.{ShortReply}
use Rattle.sgt_model.specs.declared.short_reply.ShortReply.TheVariants as bare
use Rattle.sgt_model.specs.Fates.{live, live_ones}
use Rattle.sgt_model.specs.Configurations.{Configuration}
use Rattle.sgt_desk.specs.Engines.{Answered, EngineState, configuration_after}
use Rattle.sgt_desk.specs.declared.desk.Desk.{Desk}
use Rattle.sgt_desk.specs.declared.handing_on.Feed.{Feed}
use Rattle.sgt_desk.specs.declared.reason.Reason.{Reason}
use Rattle.sgt_desk.specs.declared.reason.Reason.TheVariants.{Turn, Full, End, Busy, Cut}

-- ---- a desk

-- its engine's configuration and history, and what the threads know of each other
pub record DeskState : Type 0 where
  pub configuration : Configuration
  pub past : List Entry
  pub part : ℕ
  pub ended : ℕ
  pub reported : ℕ
  pub committing : ℕ
  pub cutters : ℕ

-- that of a desk, by the state of its engine
abbrev pub state : {E : Type 0} → (E → EngineState) → Desk E → DeskState
state engine d = record {
  configuration = (engine d.engine).configuration;
  past = (engine d.engine).past;
  part = d.part;
  ended = d.ended;
  reported = d.reported;
  committing = d.committing;
  cutters = d.cutters;
}

-- a desk that was just opened
abbrev pub opened : EngineState → DeskState
opened e = record { configuration = e.configuration; past = e.past; part = 0; ended = 0; reported = 0; committing = 0; cutters = 0 }

-- the number after this one, and 0 after the last
abbrev pub next_number : ℕ → ℕ
next_number n = cond (nat_eq n 18446744073709551615) 0 (n + 1)

-- the reply ends a live transaction
abbrev pub ends_short : ShortReply → Bool
ends_short bare.Committed = true
ends_short (bare.Aborted why) = true
ends_short (bare.Refused code) = true
ends_short _ = false

-- the reply commits or refuses a call
abbrev pub reports_short : ShortReply → Bool
reports_short bare.Committed = true
reports_short (bare.Refused code) = true
reports_short _ = false

-- an event was answered, with this reply, and its end is counted if it is one
pub record AddsEntry (event : Event) (before : DeskState) (short : ShortReply) (after : DeskState) : Type 0 where
  pub answered : Answered before.configuration event before.past short after.past
  pub configuration : after.configuration ≡ before.configuration
  pub part : after.part ≡ before.part
  pub ended : after.ended ≡ cond (ends_short short) (next_number before.ended) before.ended
  pub reported : after.reported ≡ cond (reports_short short) (next_number before.reported) before.reported

-- as many calls rest as before
pub record SameCounts (before after : DeskState) : Type 0 where
  pub committing : after.committing ≡ before.committing
  pub cutters : after.cutters ≡ before.cutters

-- an event was answered, with this reply, and nothing else has happened
pub record Adds (event : Event) (before : DeskState) (short : ShortReply) (after : DeskState) : Type 0 where
  pub entry : AddsEntry event before short after
  pub counts : SameCounts before after

-- nothing has happened, or this event was answered with this reply
abbrev pub MayAdd : Event → DeskState → ShortReply → DeskState → Type 0
MayAdd event before short after = (after ≡ before) ⊎ Adds event before short after

-- one more, as far as the number can grow
abbrev pub one_more : ℕ → ℕ
one_more n = cond (nat_eq n 18446744073709551615) n (n + 1)

-- how many calls are counted with this one, which is counted already or not
abbrev pub with_call : Bool → ℕ → ℕ
with_call is_counted n = cond is_counted n (one_more n)

-- how many are without it
abbrev pub without_call : Bool → ℕ → ℕ
without_call is_counted n = cond is_counted (n - 1) n

-- all but the counts of calls that rest is the same
pub record SameHistory (before after : DeskState) : Type 0 where
  pub configuration : after.configuration ≡ before.configuration
  pub past : after.past ≡ before.past
  pub part : after.part ≡ before.part
  pub ended : after.ended ≡ before.ended
  pub reported : after.reported ≡ before.reported

-- nothing has happened, or this event was answered with this reply; the counts of calls that rest may differ
abbrev pub MayAddEntry : Event → DeskState → ShortReply → DeskState → Type 0
MayAddEntry event before short after = SameHistory before after ⊎ AddsEntry event before short after

-- who is live stays so
abbrev pub StaysLive : DeskState → DeskState → Type 0
StaysLive before after = (t : ℕ) → live before.past t ≡ true → live after.past t ≡ true

-- the history was cut off, and the next part has begun
pub record IsCutOff (before after : DeskState) : Type 0 where
  pub past : after.past ≡ []
  pub configuration : after.configuration ≡ configuration_after before.configuration before.past
  pub part : after.part ≡ next_number before.part
  pub ended : after.ended ≡ before.ended
  pub reported : after.reported ≡ before.reported

-- ---- reasons to rest

-- the history may not be cut off
abbrev pub is_busy : DeskState → Bool
is_busy d = nat_lt 0 (length (live_ones d.past)) || nat_lt 0 d.committing

-- the reason holds
abbrev pub holds : Reason → DeskState → Bool
holds (Turn t u) d = live d.past t && live d.past u
holds (Full count) d = not (nat_lt (length (live_ones d.past)) count)
holds (End ended) d = nat_eq d.ended ended && nat_lt 0 (length (live_ones d.past))
holds (Busy part) d = nat_eq d.part part && is_busy d
holds Cut d = nat_lt 0 d.cutters

-- if a reason to rest has ceased, whichever it is, all that rest are to be woken
abbrev pub Wakes : DeskState → DeskState → Bool → Type 0
Wakes before after wakes = (r : Reason) → holds r before ≡ true → holds r after ≡ false → wakes ≡ true

-- ---- calls that are handed on

-- the position from which the next call is looked for: 0 in a part that has begun since
abbrev pub position_in : Feed → ℕ → ℕ
position_in feed part = cond (nat_eq feed.part part) feed.read 0
