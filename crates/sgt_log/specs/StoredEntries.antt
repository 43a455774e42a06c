-- The entries of stored ones, by the lists of transactions and of values.
use Rattle.std.specs.Prelude.{◌≡◌, ◌≤◌, ℕ, ℤ, List, [], ◌∷◌, length, Some, None}
use Rattle.sgt_model.specs.Numbers.{IsValue}
use Rattle.sgt_model.specs.declared.entry.Entry.{Entry}
use Rattle.sgt_model.specs.declared.event.Event.{Event}
use Rattle.sgt_model.specs.declared.reply.Reply.{Reply}
use Rattle.sgt_model.specs.declared.short_reply.ShortReply.{ShortReply}
use Rattle.sgt_model.specs.declared.short_reply.ShortReply.TheVariants as short
use Rattle.sgt_model.specs.ShortReplies.{full_reply}
use Rattle.sgt_log.specs.declared.bare.BareEvent.{BareEvent}
use Rattle.sgt_log.specs.declared.bare.BareEvent.TheVariants as bare
use Rattle.sgt_log.specs.declared.stored_reply.StoredReply.{StoredReply}
use Rattle.sgt_log.specs.declared.stored_reply.StoredReply.TheVariants as reply
use Rattle.sgt_log.specs.declared.stored_event.StoredEvent.{StoredEvent}
use Rattle.sgt_log.specs.declared.stored_event.StoredEvent.TheVariants as event
use Rattle.sgt_log.specs.declared.stored_entry.StoredEntry.{StoredEntry}
use Rattle.sgt_log.specs.declared.span.Span.{Span}
use Rattle.sgt_log.specs.EntryParts.{full_event, arg_count, HasArgs}
use Rattle.sgt_log.specs.Spans.{no_items, part_of, IsWithin}

-- an event: without its arguments, where its arguments are, and in full

abbrev pub bare_of : StoredEvent → BareEvent
bare_of (event.Start procedure count from) = bare.Start procedure
bare_of (event.Step t) = bare.Step t
bare_of (event.Access k table t from) = bare.Access k table t
bare_of (event.Commit t) = bare.Commit t
bare_of (event.Quit t) = bare.Quit t

abbrev pub args_at : StoredEvent → Span
args_at (event.Start procedure count from) = record { from = from; count = count }
args_at (event.Access k table t from) = record { from = from; count = arg_count k }
args_at _ = no_items

abbrev pub event_of : List ℤ → StoredEvent → Event
event_of values e = full_event (bare_of e) (part_of values (args_at e))

-- a reply: without its lists, where its lists are, and in full

abbrev pub short_of : StoredReply → ShortReply
short_of (reply.Started t) = short.Started t
short_of reply.NoProcedure = short.NoProcedure
short_of reply.BadArgs = short.BadArgs
short_of reply.Spent = short.Spent
short_of reply.Full = short.Full
short_of reply.Unknown = short.Unknown
short_of (reply.Over f count from) = short.Over f
short_of (reply.Looked table id v) = short.Looked (table, id) (Some v)
short_of (reply.Missed table id) = short.Looked (table, id) None
short_of (reply.Wrote table id v) = short.Wrote (table, id) (Some v)
short_of (reply.Removed table id) = short.Wrote (table, id) None
short_of reply.Ended = short.Ended
short_of reply.NotEnded = short.NotEnded
short_of (reply.Waits t) = short.Waits t
short_of (reply.Committed count from) = short.Committed
short_of (reply.Aborted c cycle fell cycle_from fell_from) = short.Aborted c
short_of (reply.Refused code count from) = short.Refused code

abbrev pub answers_at : StoredReply → Span
answers_at (reply.Committed count from) = record { from = from; count = count }
answers_at _ = no_items

abbrev pub cycle_at : StoredReply → Span
cycle_at (reply.Over f count from) = record { from = from; count = count }
cycle_at (reply.Aborted c cycle fell cycle_from fell_from) = record { from = cycle_from; count = cycle }
cycle_at _ = no_items

abbrev pub fell_at : StoredReply → Span
fell_at (reply.Aborted c cycle fell cycle_from fell_from) = record { from = fell_from; count = fell }
fell_at (reply.Refused code count from) = record { from = from; count = count }
fell_at _ = no_items

abbrev pub reply_of : List ℕ → List ℤ → StoredReply → Reply
reply_of tids values r =
    full_reply (short_of r) (part_of values (answers_at r)) (part_of tids (cycle_at r)) (part_of tids (fell_at r))

abbrev pub entry_of : List ℕ → List ℤ → StoredEntry → Entry
entry_of tids values e = record { event = event_of values e.event; reply = reply_of tids values e.reply }

-- the table and the number that it names are a key's
abbrev pub HasKey : StoredReply → Type 0
HasKey (reply.Looked table id v) = (table ≤ 7) × IsValue id
HasKey (reply.Missed table id) = (table ≤ 7) × IsValue id
HasKey (reply.Wrote table id v) = (table ≤ 7) × IsValue id
HasKey (reply.Removed table id) = (table ≤ 7) × IsValue id
HasKey _ = Unit {0}

-- the arguments that it names are within the list of values, and are those of such an event
pub record IsEvent (values : List ℤ) (e : StoredEvent) : Type 0 where
  pub args : IsWithin (length values) (args_at e)
  pub few : (args_at e).count ≤ 4
  pub own : HasArgs (bare_of e) (part_of values (args_at e))

-- the parts that it names are within lists of these lengths: n transactions, v values
pub record IsReply (n v : ℕ) (r : StoredReply) : Type 0 where
  pub answers : IsWithin v (answers_at r)
  pub few : (answers_at r).count ≤ 8
  pub cycle : IsWithin n (cycle_at r)
  pub fell : IsWithin n (fell_at r)
  pub key : HasKey r

abbrev pub IsEntry : ℕ → List ℤ → StoredEntry → Type 0
IsEntry n values e = IsEvent values e.event × IsReply n (length values) e.reply

-- each of them is within the lists
abbrev pub AreEntries : ℕ → List ℤ → List StoredEntry → Type 0
AreEntries n values [] = Unit {0}
AreEntries n values (e ∷ es) = IsEntry n values e × AreEntries n values es

-- it has no list, whatever the lists of the history hold
abbrev pub HasNoArgs : StoredEvent → Type 0
HasNoArgs e = args_at e ≡ no_items

abbrev pub HasNoLists : StoredReply → Type 0
HasNoLists r = (answers_at r ≡ no_items) × (cycle_at r ≡ no_items) × (fell_at r ≡ no_items)
