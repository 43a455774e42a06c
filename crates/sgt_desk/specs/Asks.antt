-- What a call keeps from turn to turn, and when it may rest.
use Rattle.std.specs.Prelude.{◌≡◌, ◌⊎◌, ℕ, Bool, true, false, not, ◌&&◌, nat_eq, nat_le, List, [], ◌∷◌, Option, Some, None}
use Rattle.sgt_model.specs.declared.entry.Entry.{Entry}
use Rattle.sgt_model.specs.declared.event.Event.{Event}
use Rattle.sgt_model.specs.declared.event.Event.TheVariants as event
use Rattle.sgt_model.specs.declared.short_reply.ShortReply.{ShortReply}
use Rattle.sgt_model.specs.declared.short_reply.ShortReply.TheVariants as bare
use Rattle.sgt_model.specs.ShortReplies.{short_reply}
use Rattle.sgt_desk.specs.declared.ask.Ask.{Ask}
use Rattle.sgt_desk.specs.declared.ask.Deadline.{Deadline}
use Rattle.sgt_desk.specs.declared.ask.Deadline.TheVariants.{Never, AtOnce, At}
use Rattle.sgt_desk.specs.declared.making.Asked.{Asked}
use Rattle.sgt_desk.specs.declared.making.Asked.TheVariants.{Step, Access, Quit}
use Rattle.sgt_desk.specs.declared.reason.Reason.{Reason}
use Rattle.sgt_desk.specs.declared.reason.Reason.TheVariants.{Turn, Full, End, Busy, Cut}
use Rattle.sgt_desk.specs.Desks.{DeskState, holds}

-- the deadline has come at this time
abbrev pub has_come : Deadline → ℕ → Bool
has_come Never now = false
has_come AtOnce now = true
has_come (At at) now = nat_le at now

-- the reason, if there is one, holds
abbrev pub is_held : Option Reason → DeskState → Bool
is_held None d = false
is_held (Some r) d = holds r d

-- the reason is that of a cut
abbrev pub is_of_cut : Option Reason → Bool
is_of_cut (Some (Busy part)) = true
is_of_cut _ = false

-- a call that is no cut rests for a reason that holds
abbrev pub holds_up : Ask → DeskState → Bool
holds_up a d = not (is_of_cut a.reason) && is_held a.reason d

-- the call rests for a reason that holds, and its deadline has not come
pub record Rests (a : Ask) (now : ℕ) (d : DeskState) : Type 0 where
  pub held : is_held a.reason d ≡ true
  pub in_time : has_come a.deadline now ≡ false

-- the call would have to rest, for a reason that holds, but its deadline has come
pub record IsLate (deadline : Deadline) (now : ℕ) (reason : Option Reason) (d : DeskState) : Type 0 where
  pub over : has_come deadline now ≡ true
  pub held : is_held reason d ≡ true

-- the reason is that of a cut in another part of the history
abbrev pub saw_cut : Option Reason → ℕ → Bool
saw_cut (Some (Busy before)) part = not (nat_eq before part)
saw_cut _ part = false

-- the call rested for a cut, and another call has made one
abbrev pub SawCut : Ask → DeskState → Type 0
SawCut a d = saw_cut a.reason d.part ≡ true

-- the reply does not say that a commit has to wait
abbrev pub IsNoWait : ShortReply → Type 0
IsNoWait (bare.Waits u) = ⊥
IsNoWait _ = Unit {0}

-- a call that has not begun
abbrev pub begun : Deadline → Ask
begun deadline = record { deadline = deadline; reason = None; is_counted = false; reply = bare.Unknown }

-- all but whether it is counted is the same
pub record SameButCount (before after : Ask) : Type 0 where
  pub deadline : after.deadline ≡ before.deadline
  pub reason : after.reason ≡ before.reason
  pub reply : after.reply ≡ before.reply

-- all but the reply is the same
pub record SameButReply (before after : Ask) : Type 0 where
  pub deadline : after.deadline ≡ before.deadline
  pub reason : after.reason ≡ before.reason
  pub is_counted : after.is_counted ≡ before.is_counted

-- the reply does not say that as many are live as the limits allow
abbrev pub IsNotFull : ShortReply → Type 0
IsNotFull bare.Full = ⊥
IsNotFull _ = Unit {0}

-- why a start may rest: as before, for a cut, or since as many are live as the limits allow
abbrev pub StartsWhy : DeskState → Option Reason → Option Reason → Type 0
StartsWhy d before (Some (Full n)) = (before ≡ Some (Full n)) ⊎ (n ≡ d.configuration.rules.limits.live)
StartsWhy d before (Some (Turn t u)) = before ≡ Some (Turn t u)
StartsWhy d before (Some (End n)) = before ≡ Some (End n)
StartsWhy d before (Some (Busy n)) = before ≡ Some (Busy n)
StartsWhy d before (Some Cut) = Unit {0}
StartsWhy d before None = Unit {0}

-- the newest entry is this event, and its reply without its lists is this
abbrev pub IsNewest : Event → ShortReply → List Entry → Type 0
IsNewest event short [] = ⊥
IsNewest event short (e ∷ past) = (e.event ≡ event) × (short_reply e.reply ≡ short)

-- why a commit may rest: as before, or since it was just told for whom it waits
abbrev pub CommitsWhy : ℕ → List Entry → Option Reason → ShortReply → Option Reason → Type 0
CommitsWhy t past before short (Some (Turn u v)) =
    (before ≡ Some (Turn u v)) ⊎ ((u ≡ t) × (short ≡ bare.Waits v) × IsNewest (event.Commit t) (bare.Waits v) past)
CommitsWhy t past before short (Some (Full n)) = before ≡ Some (Full n)
CommitsWhy t past before short (Some (End n)) = before ≡ Some (End n)
CommitsWhy t past before short (Some (Busy n)) = before ≡ Some (Busy n)
CommitsWhy t past before short (Some Cut) = before ≡ Some Cut
CommitsWhy t past before short None = Unit {0}

-- the event that asks this of a transaction
abbrev pub event_of : Asked → ℕ → Event
event_of Step t = event.Step t
event_of (Access d) t = event.Access t d
event_of Quit t = event.Quit t
