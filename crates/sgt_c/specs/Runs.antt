-- A transaction that one call runs from its start to its end.
use Rattle.std.specs.Prelude.{◌≡◌, ℕ, Bool, true, false, ◌||◌, List, [], ◌∷◌, ◌++◌, Option, Some, None}
use Rattle.std.specs.List.{All}
use Rattle.sgt_model.specs.declared.entry.Entry.{Entry}
use Rattle.sgt_model.specs.declared.event.Event.{Event}
use Rattle.sgt_model.specs.declared.event.Event.TheVariants.{Step, Commit, Quit}
use Rattle.sgt_model.specs.declared.reply.Reply.{Reply}
use Rattle.sgt_model.specs.declared.reply.Reply.TheVariants as reply
use Rattle.sgt_model.specs.declared.short_reply.ShortReply.{ShortReply}
use Rattle.sgt_model.specs.declared.short_reply.ShortReply.TheVariants as bare
use Rattle.sgt_model.specs.Fates.{is_start, live}
use Rattle.sgt_model.specs.ShortReplies.{short_reply}
use Rattle.sgt_engine.specs.EngineView.{EngineView, with_entry}
use Rattle.sgt_c.specs.declared.held.Held.{Held}
use Rattle.sgt_c.specs.declared.reply_struct.SgtReply.{SgtReply}
use Rattle.sgt_engine.specs.Guarantees.{Guarantees}
use Rattle.sgt_c.specs.ReplyStructs.{HoldsReply}

-- the engine with these entries added, newest first
abbrev pub with_entries : List Entry → EngineView → EngineView
with_entries entries e = record { opening = e.opening; procedures = e.procedures; limits = e.limits; past = entries ++ e.past }

-- the reply to a step that made its access
abbrev pub is_access : ShortReply → Bool
is_access (bare.Looked k v) = true
is_access (bare.Wrote k v) = true
is_access _ = false

-- the reply to a step that wrote
abbrev pub is_write : ShortReply → Bool
is_write (bare.Wrote k v) = true
is_write _ = false

-- one of these entries is a write
abbrev pub any_write : List Entry → Bool
any_write [] = false
any_write (e ∷ entries) = is_write (short_reply e.reply) || any_write entries

-- the reply to a step whose procedure has ended
abbrev pub is_end : ShortReply → Bool
is_end bare.Ended = true
is_end _ = false

-- the entry is a step of the transaction
abbrev pub IsStep : ℕ → Entry → Type 0
IsStep t e = e.event ≡ Step t

-- a step that made its access
abbrev pub IsAccess : ℕ → Entry → Type 0
IsAccess t e = (e.event ≡ Step t) × (is_access (short_reply e.reply) ≡ true)

-- the transaction made accesses, writes among them or none, and then this reply answered a step that made none
abbrev pub StepsOn : ℕ → Bool → Reply → EngineView → EngineView → Type 0
StepsOn t wrote r e after = (steps : List Entry) × All (IsAccess t) steps × (is_access (short_reply r) ≡ false) × (wrote ≡ any_write steps)
    × (after ≡ with_entry (Step t) r (with_entries steps e))

-- if the procedure has ended, the last reply answers the commit; else it answers the last step
abbrev pub CommitsIf : Bool → ℕ → Reply → Reply → EngineView → EngineView → Type 0
CommitsIf true t r last e after = after ≡ with_entry (Commit t) last e
CommitsIf false t r last e after = (last ≡ r) × (after ≡ e)

-- the transaction was stepped to its end, and committed if it reached it
abbrev pub RunsOn : ℕ → Bool → Reply → EngineView → EngineView → Type 0
RunsOn t wrote last e after = (r : Reply) × (stepped : EngineView) × StepsOn t wrote r e stepped × CommitsIf (is_end (short_reply r)) t r last stepped after

-- the last reply refused the start, or a transaction was started and ran on to that reply
abbrev pub Runs : Event → Option ℕ → Bool → Reply → EngineView → EngineView → Type 0
Runs start None wrote last e after = (is_start last ≡ false) × (wrote ≡ false) × (after ≡ with_entry start last e)
Runs start (Some t) wrote last e after = RunsOn t wrote last (with_entry start (reply.Started t) e) after

-- the steps, with the last reply in short
abbrev pub StepsTo : ℕ → Bool → ShortReply → EngineView → EngineView → Type 0
StepsTo t wrote short e after = (last : Reply) × (short_reply last ≡ short) × StepsOn t wrote last e after

-- the steps and the commit, with the last reply in short
abbrev pub RunsOnTo : ℕ → Bool → ShortReply → EngineView → EngineView → Type 0
RunsOnTo t wrote short e after = (last : Reply) × (short_reply last ≡ short) × RunsOn t wrote last e after

-- the whole run, with the last reply in short
abbrev pub RunsTo : Event → Option ℕ → Bool → ShortReply → EngineView → EngineView → Type 0
RunsTo start started wrote short e after = (last : Reply) × (short_reply last ≡ short) × Runs start started wrote last e after

-- the number is returned, if there is one; else what was there before is unchanged
abbrev pub IsNumberReported : Option ℕ → ℕ → ℕ → Type 0
IsNumberReported None before reported = reported ≡ before
IsNumberReported (Some t) before reported = reported ≡ t

-- the run is in the history, the number of its transaction and its last reply are returned, and each part of the headline
-- holds
abbrev pub Ran : Event → Option Held → Option Held → ℕ → ℕ → SgtReply → Type 0
Ran start None new before tid reported = ⊥
Ran start (Some h) None before tid reported = ⊥
Ran start (Some h) (Some h') before tid reported = (started : Option ℕ) × (wrote : Bool) × (last : Reply)
    × Runs start started wrote last h.engine h'.engine × IsNumberReported started before tid × HoldsReply reported last
    × Guarantees h'.engine × (h'.part ≡ h.part)

-- the transaction made some steps, and is live
abbrev pub StopsLive : ℕ → EngineView → EngineView → Type 0
StopsLive t e after = (steps : List Entry) × All (IsStep t) steps × (after ≡ with_entries steps e) × (live after.past t ≡ true)

-- the transaction made some steps, and was then aborted (`quit`)
abbrev pub QuitsAfter : ℕ → EngineView → EngineView → Type 0
QuitsAfter t e after = (steps : List Entry) × All (IsStep t) steps × (r : Reply)
    × (after ≡ with_entry (Quit t) r (with_entries steps e))

-- nothing has changed, or the transaction that was started was aborted
abbrev pub GivesUp : Event → Option ℕ → EngineView → EngineView → Type 0
GivesUp start None e after = after ≡ e
GivesUp start (Some t) e after = QuitsAfter t (with_entry start (reply.Started t) e) after

-- the same for the content of a handle, with each part of the headline
abbrev pub GaveUp : Event → Option Held → Option Held → Type 0
GaveUp start None new = ⊥
GaveUp start (Some h) None = ⊥
GaveUp start (Some h) (Some h') = (started : Option ℕ) × GivesUp start started h.engine h'.engine × Guarantees h'.engine
    × (h'.part ≡ h.part)
