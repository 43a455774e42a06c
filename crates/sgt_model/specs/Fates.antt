-- Which transactions were started, how they end, and which are live (Bernstein, Hadzilacos and Goodman (1987), chapter 1:
-- commit, abort and active).
use Rattle.std.specs.Prelude.{ℕ, ◌+◌, Bool, true, false, ◌&&◌, cond, nat_eq, nat_lt, List, [], ◌∷◌, ◌++◌, Option, Some, None}
use Rattle.std.specs.List.{list_any, filter}
use Rattle.std.specs.Option.{option_or, is_none}
use Rattle.sgt_model.specs.declared.event.Event.{Event}
use Rattle.sgt_model.specs.declared.event.Event.TheVariants.{Start, Step, Access, Commit, Quit}
use Rattle.sgt_model.specs.declared.reply.Reply.{Reply}
use Rattle.sgt_model.specs.declared.reply.Reply.TheVariants as reply
use Rattle.sgt_model.specs.declared.reply.Cause.{Cause}
use Rattle.sgt_model.specs.declared.reply.Cause.TheVariants as cause
use Rattle.sgt_model.specs.declared.reply.Fate.{Fate}
use Rattle.sgt_model.specs.declared.reply.Fate.TheVariants as fate
use Rattle.sgt_model.specs.declared.entry.Entry.{Entry}

-- the reply starts a transaction
abbrev pub is_start : Reply → Bool
is_start (reply.Started t) = true
is_start _ = false

-- how many transactions were started; the next one to start has this number
abbrev pub start_count : List Entry → ℕ
start_count [] = 0
start_count (e ∷ past) = cond (is_start e.reply) (start_count past + 1) (start_count past)

-- the event names transaction t; a start names none
abbrev pub concerns : Event → ℕ → Bool
concerns (Start p args) t = false
concerns (Step u) t = nat_eq u t
concerns (Access u d) t = nat_eq u t
concerns (Commit u) t = nat_eq u t
concerns (Quit u) t = nat_eq u t

-- the transaction that an event names, and 0 for a start
abbrev pub subject : Event → ℕ
subject (Start p args) = 0
subject (Step u) = u
subject (Access u d) = u
subject (Commit u) = u
subject (Quit u) = u

-- how an abort of the event's transaction for this cause ends transaction t, if it does: t is that one, or is aborted in
-- cascade
abbrev pub undone_in : Event → Cause → List ℕ → ℕ → Option Fate
undone_in event why fell t = cond (concerns event t) (Some (fate.Aborted why)) (cond (list_any (λ u. nat_eq u t) fell) (Some (fate.Fell (subject event))) None)

-- how an event with this reply ends transaction t, if it does: t commits, is aborted, or is aborted in cascade. A
-- transaction that is refused at its commit is aborted, because it raised a code
abbrev pub ending_in : Event → Reply → ℕ → Option Fate
ending_in event (reply.Committed answers) t = cond (concerns event t) (Some fate.Committed) None
ending_in event (reply.Aborted why fell) t = undone_in event why fell t
ending_in event (reply.Refused code fell) t = undone_in event (cause.Asked code) fell t
ending_in event _ t = None

-- how a transaction ended, if it did
abbrev pub fate_of : List Entry → ℕ → Option Fate
fate_of [] t = None
fate_of (e ∷ past) t = option_or (ending_in e.event e.reply t) (fate_of past t)

-- it ended by its commit
abbrev pub has_committed : Option Fate → Bool
has_committed None = false
has_committed (Some fate.Committed) = true
has_committed (Some (fate.Aborted cause)) = false
has_committed (Some (fate.Fell u)) = false

-- it ended by an abort, its own or a cascading one
abbrev pub has_aborted : Option Fate → Bool
has_aborted None = false
has_aborted (Some fate.Committed) = false
has_aborted (Some (fate.Aborted cause)) = true
has_aborted (Some (fate.Fell u)) = true

-- it had an Aborted or a Refused reply, or was aborted in cascade with one
abbrev pub aborted : List Entry → ℕ → Bool
aborted past t = has_aborted (fate_of past t)

-- it had a Committed reply
abbrev pub committed : List Entry → ℕ → Bool
committed past t = has_committed (fate_of past t)

-- it was started, and is neither committed nor aborted
abbrev pub live : List Entry → ℕ → Bool
live past t = nat_lt t (start_count past) && is_none (fate_of past t)

-- those that were started, rising
abbrev pub started_ones : List Entry → List ℕ
started_ones [] = []
started_ones (e ∷ past) = cond (is_start e.reply) (started_ones past ++ start_count past ∷ []) (started_ones past)

-- those that are live, rising
abbrev pub live_ones : List Entry → List ℕ
live_ones past = filter (λ t. live past t) (started_ones past)
