-- Positions of entries in a history, oldest entry first: the number of entries before them.
use Rattle.std.specs.Prelude.{◌&&◌, ℕ, Bool, false, List, [], Option, Some, None, take, reverse, slice_get}
use Rattle.std.specs.Option.{option_and_then, is_none}
use Rattle.sgt_model.specs.declared.entry.Entry.{Entry}
use Rattle.sgt_model.specs.declared.reply.Reply.{Reply}
use Rattle.sgt_model.specs.declared.reply.Reply.TheVariants as reply
use Rattle.sgt_model.specs.Accesses.{Access, access_of, is_store}
use Rattle.sgt_model.specs.Questions.{named_by}
use Rattle.sgt_model.specs.ShortReplies.{cause_cycle, fell_in}

-- the history before the entry at this position, newest entry first
abbrev pub entries_before : List Entry → ℕ → List Entry
entries_before entries place = reverse (take place entries)

-- the access at this position, if an entry is there that is one
abbrev pub placed_access : List Entry → ℕ → Option Access
placed_access entries place = option_and_then access_of (slice_get entries place)

-- the access removes the record: it is a write of no value
abbrev pub is_removal : Option Access → Bool
is_removal None = false
is_removal (Some a) = is_store a.kind && is_none a.value

-- the access at this position, if there is one, removes the record
abbrev pub removes_at : List Entry → Option ℕ → Bool
removes_at entries None = false
removes_at entries (Some place) = is_removal (placed_access entries place)

-- the cycle of an abort by a cycle; empty for any other reply
abbrev pub cycle_in : Reply → List ℕ
cycle_in (reply.Aborted why fell) = cause_cycle why
cycle_in _ = []

-- the list of an entry, empty if there is none
abbrev pub listed_by : (Entry → List ℕ) → Option Entry → List ℕ
listed_by f None = []
listed_by f (Some e) = f e

-- the cycle of the abort at this position, if there is one
abbrev pub placed_cycle : List Entry → ℕ → List ℕ
placed_cycle entries place = listed_by (λ (e : Entry). cycle_in e.reply) (slice_get entries place)

-- the transactions aborted in cascade at this position
abbrev pub placed_falls : List Entry → ℕ → List ℕ
placed_falls entries place = listed_by (λ (e : Entry). fell_in e.reply) (slice_get entries place)

-- the transaction that the event at this position names
abbrev pub placed_named : List Entry → ℕ → Option ℕ
placed_named entries place = option_and_then (λ (e : Entry). named_by e.event) (slice_get entries place)
