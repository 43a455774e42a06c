-- The items of an entry's lists, and an event without its arguments.
use Rattle.std.specs.Prelude.{◌≡◌, ◌≤◌, ℕ, ℤ, pos, Bool, true, false, List, [], ◌∷◌, length, Option, Some, None, slice_index_or}
use Rattle.sgt_model.specs.Numbers.{IsValue}
use Rattle.sgt_model.specs.declared.event.Event.{Event}
use Rattle.sgt_model.specs.declared.event.Event.TheVariants as event
use Rattle.sgt_model.specs.declared.event.Request.{Request}
use Rattle.sgt_model.specs.declared.event.Request.TheVariants as request
use Rattle.sgt_model.specs.declared.reply.Cause.TheVariants as cause
use Rattle.sgt_model.specs.declared.reply.Fate.TheVariants as fate
use Rattle.sgt_model.specs.declared.reply.Reply.{Reply}
use Rattle.sgt_model.specs.declared.reply.Reply.TheVariants as reply
use Rattle.sgt_model.specs.declared.entry.Entry.{Entry}
use Rattle.sgt_model.specs.Questions.{started_in, over_in, is_ending, is_wait}
use Rattle.sgt_model.specs.ShortReplies.{full_reply}
use Rattle.sgt_model.specs.declared.short_reply.ShortReply.{ShortReply}
use Rattle.sgt_log.specs.declared.access_kind.AccessKind.{AccessKind}
use Rattle.sgt_log.specs.declared.access_kind.AccessKind.TheVariants as kind
use Rattle.sgt_log.specs.declared.bare.BareEvent.{BareEvent}
use Rattle.sgt_log.specs.declared.bare.BareEvent.TheVariants as no_event
use Rattle.sgt_log.specs.declared.entry_lists.EntryLists.{EntryLists}

-- the parts of a request: its kind, its key, and its arguments, which are the number of its record and the value that it writes

abbrev pub kind_in : Request → AccessKind
kind_in (request.Read k) = kind.Read
kind_in (request.Write k (Some v)) = kind.Write
kind_in (request.Write k None) = kind.Remove

abbrev pub key_in : Request → ℕ × ℤ
key_in (request.Read k) = k
key_in (request.Write k v) = k

abbrev pub request_args : Request → List ℤ
request_args (request.Read k) = k.1 ∷ []
request_args (request.Write k (Some v)) = k.1 ∷ v ∷ []
request_args (request.Write k None) = k.1 ∷ []

-- how many arguments a request of this kind has
abbrev pub arg_count : AccessKind → ℕ
arg_count kind.Read = 1
arg_count kind.Write = 2
arg_count kind.Remove = 1

-- these are arguments of such a request: as many as its kind has, and the number of a record of this table
abbrev pub AreArgs : AccessKind → ℕ → List ℤ → Type 0
AreArgs k table args = (table ≤ 7) × (length args ≡ arg_count k) × IsValue (slice_index_or args 0 (pos 0))

-- the request of this kind for a record of this table, with these arguments
abbrev pub request_with : AccessKind → ℕ → List ℤ → Request
request_with kind.Read table args = request.Read (table, slice_index_or args 0 (pos 0))
request_with kind.Write table args = request.Write (table, slice_index_or args 0 (pos 0)) (Some (slice_index_or args 1 (pos 0)))
request_with kind.Remove table args = request.Write (table, slice_index_or args 0 (pos 0)) None

-- an event's arguments

abbrev pub args_in : Event → List ℤ
args_in (event.Start procedure args) = args
args_in (event.Access t d) = request_args d
args_in _ = []

abbrev pub bare_event : Event → BareEvent
bare_event (event.Start procedure args) = no_event.Start procedure
bare_event (event.Step t) = no_event.Step t
bare_event (event.Access t d) = no_event.Access (kind_in d) (key_in d).0 t
bare_event (event.Commit t) = no_event.Commit t
bare_event (event.Quit t) = no_event.Quit t

-- these may be the arguments of such an event, so far as it is an access
abbrev pub HasArgs : BareEvent → List ℤ → Type 0
HasArgs (no_event.Access k table t) args = AreArgs k table args
HasArgs _ args = Unit {0}

-- the event with these arguments, if it has any
abbrev pub full_event : BareEvent → List ℤ → Event
full_event (no_event.Start procedure) args = event.Start procedure args
full_event (no_event.Step t) args = event.Step t
full_event (no_event.Access k table t) args = event.Access t (request_with k table args)
full_event (no_event.Commit t) args = event.Commit t
full_event (no_event.Quit t) args = event.Quit t

-- the entry of an event and a reply, with these lists
abbrev pub full_entry : BareEvent → ShortReply → EntryLists → Entry
full_entry e r lists = record {
  event = full_event e lists.args.now;
  reply = full_reply r lists.answers.now lists.cycle.now lists.fell.now;
}

-- the lists are as short as an entry's are
abbrev pub AreFew : EntryLists → Type 0
AreFew lists = (length lists.args.now ≤ 4) × (length lists.answers.now ≤ 8) × (length lists.cycle.now ≤ 32) × (length lists.fell.now ≤ 32)

-- the answers of a commit, if it is one
abbrev pub committed_in : Reply → Option (List ℤ)
committed_in (reply.Committed answers) = Some answers
committed_in _ = None

-- other questions about a reply

-- it aborts a transaction whose step would close a cycle
abbrev pub is_by_cycle : Reply → Bool
is_by_cycle (reply.Aborted (cause.Cycle cycle) fell) = true
is_by_cycle _ = false

-- it reports that the transaction was aborted in cascade
abbrev pub reports_fall : Reply → Bool
reports_fall (reply.Over (fate.Fell first)) = true
reports_fall _ = false

-- it reports a read or a write
abbrev pub is_access : Reply → Bool
is_access (reply.Looked k v) = true
is_access (reply.Wrote k v) = true
is_access _ = false

-- its entry starts and ends no transaction, reports no end, and has no commit wait
abbrev pub IsQuiet : Entry → Type 0
IsQuiet e = (started_in e.event e.reply ≡ None) × (over_in e.event e.reply ≡ None) × (is_ending e.reply ≡ false) × (is_wait e.reply ≡ false)

-- it reports that the procedure is at its end
abbrev pub is_at_end : Reply → Bool
is_at_end reply.Ended = true
is_at_end _ = false
