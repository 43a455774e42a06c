-- Which entry of the history is returned.
use Rattle.std.specs.Prelude.{◌≡◌, ℕ, ◌≤◌, ◌<◌, length, reverse, slice_get, Option, Some, None}
use Rattle.sgt_model.specs.declared.entry.Entry.{Entry}
use Rattle.sgt_c.specs.declared.held.Held.{Held}
use Rattle.sgt_c.specs.declared.event_struct.SgtEvent.{SgtEvent}
use Rattle.sgt_c.specs.declared.reply_struct.SgtReply.{SgtReply}
use Rattle.sgt_c.specs.EventStructs.{HoldsEvent}
use Rattle.sgt_c.specs.ReplyStructs.{HoldsReply}

-- both parts of the entry are returned
abbrev pub HoldsEntry : SgtEvent → SgtReply → Entry → Type 0
HoldsEntry requested reported e = HoldsEvent requested e.event × HoldsReply reported e.reply

-- the entry at a position of the history is returned; the oldest is at 0
abbrev pub ReturnsEntry : Option Held → ℕ → SgtEvent → SgtReply → Type 0
ReturnsEntry None place requested reported = ⊥
ReturnsEntry (Some h) place requested reported = (e : Entry) × (slice_get (reverse h.engine.past) place ≡ Some e) × HoldsEntry requested reported e

-- there is a history, and it has no entry at this position
abbrev pub HasNoEntry : Option Held → ℕ → Type 0
HasNoEntry None place = ⊥
HasNoEntry (Some h) place = length h.engine.past ≤ place

-- there is a history, and it has fewer entries than this position
abbrev pub HasNoPlace : Option Held → ℕ → Type 0
HasNoPlace None place = ⊥
HasNoPlace (Some h) place = length h.engine.past < place
