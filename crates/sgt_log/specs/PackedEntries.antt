-- Entries in the fewest bytes, and the stored entries that they stand for.
use Rattle.std.specs.Prelude.{◌<◌, ℕ, List, [], ◌∷◌, slice_index_or}
use Rattle.sgt_log.specs.declared.packed_entry.PackedEntry.{PackedEntry}
use Rattle.sgt_log.specs.declared.packed_entry.PackedEntry.TheVariants as packed
use Rattle.sgt_log.specs.declared.stored_event.StoredEvent.TheVariants as event
use Rattle.sgt_log.specs.declared.stored_reply.StoredReply.TheVariants as reply
use Rattle.sgt_log.specs.declared.stored_entry.StoredEntry.{StoredEntry}
use Rattle.sgt_log.specs.EntryParts.{full_event}
use Rattle.sgt_log.specs.StoredEntries.{bare_of, short_of}
use Rattle.sgt_model.specs.declared.entry.Entry.{Entry}
use Rattle.sgt_model.specs.ShortReplies.{full_reply}

-- what an index outside the list of other entries stands for; no such index is stored
abbrev pub no_entry : StoredEntry
no_entry = record { event = event.Quit 0; reply = reply.Ended }

-- the entry, where those of other kinds are these
abbrev pub unpacked : List StoredEntry → PackedEntry → StoredEntry
unpacked others (packed.Looked table t id v) = record { event = event.Step t; reply = reply.Looked table id v }
unpacked others (packed.Wrote table t id v) = record { event = event.Step t; reply = reply.Wrote table id v }
unpacked others (packed.Ended t) = record { event = event.Step t; reply = reply.Ended }
unpacked others (packed.Started procedure count t from) = record { event = event.Start procedure count from; reply = reply.Started t }
unpacked others (packed.Committed count t from) = record { event = event.Commit t; reply = reply.Committed count from }
unpacked others (packed.Other at) = slice_index_or others at no_entry

-- it is no index
abbrev pub IsWhole : PackedEntry → Type 0
IsWhole (packed.Other at) = ⊥
IsWhole _ = Unit {0}

-- a step that read, wrote or came to the procedure's end
abbrev pub IsStep : PackedEntry → Type 0
IsStep (packed.Looked table t id v) = Unit {0}
IsStep (packed.Wrote table t id v) = Unit {0}
IsStep (packed.Ended t) = Unit {0}
IsStep _ = ⊥

-- the entry of a step, which has no lists
abbrev pub step_entry : PackedEntry → Entry
step_entry p = record {
  event = full_event (bare_of (unpacked [] p).event) [];
  reply = full_reply (short_of (unpacked [] p).reply) [] [] [];
}

-- if it is an index, it is one of a list of this length
abbrev pub IsAmong : ℕ → PackedEntry → Type 0
IsAmong n (packed.Other at) = at < n
IsAmong n _ = Unit {0}

-- each of them is
abbrev pub AreAmong : ℕ → List PackedEntry → Type 0
AreAmong n [] = Unit {0}
AreAmong n (p ∷ ps) = IsAmong n p × AreAmong n ps

-- what callers see of a list of entries: the entries; how many there may be before it must allocate; and for how many of the
-- frequent kinds it holds memory
pub record EntryListView : Type 0 where
  pub items : List StoredEntry
  pub capacity : ℕ
  pub memory : ℕ
