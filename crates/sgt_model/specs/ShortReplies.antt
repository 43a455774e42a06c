-- Replies without their lists: the whole reply that a short one and its lists make, and the short one and the lists of a reply.
use Rattle.std.specs.Prelude.{ℕ, ℤ, Bool, true, false, List, []}
use Rattle.sgt_model.specs.declared.reply.Cause.{Cause}
use Rattle.sgt_model.specs.declared.reply.Cause.TheVariants as cause
use Rattle.sgt_model.specs.declared.reply.Fate.{Fate}
use Rattle.sgt_model.specs.declared.reply.Fate.TheVariants as fate
use Rattle.sgt_model.specs.declared.reply.Reply.{Reply}
use Rattle.sgt_model.specs.declared.reply.Reply.TheVariants as reply
use Rattle.sgt_model.specs.declared.short_reply.ShortCause.{ShortCause}
use Rattle.sgt_model.specs.declared.short_reply.ShortCause.TheVariants as bare_cause
use Rattle.sgt_model.specs.declared.short_reply.ShortFate.{ShortFate}
use Rattle.sgt_model.specs.declared.short_reply.ShortFate.TheVariants as bare_fate
use Rattle.sgt_model.specs.declared.short_reply.ShortReply.{ShortReply}
use Rattle.sgt_model.specs.declared.short_reply.ShortReply.TheVariants as bare
use Rattle.sgt_model.specs.declared.short_reply.ReplyLists.{ReplyLists}

-- in full, with these lists. A list that the kind does not have is not looked at

abbrev pub full_cause : ShortCause → List ℕ → Cause
full_cause bare_cause.Cycle cycle = cause.Cycle cycle
full_cause (bare_cause.Asked code) cycle = cause.Asked code
full_cause bare_cause.Quit cycle = cause.Quit

abbrev pub full_fate : ShortFate → List ℕ → Fate
full_fate bare_fate.Committed cycle = fate.Committed
full_fate (bare_fate.Aborted c) cycle = fate.Aborted (full_cause c cycle)
full_fate (bare_fate.Fell t) cycle = fate.Fell t

-- the answers of a commit, the path of a cycle, those aborted in cascade
abbrev pub full_reply : ShortReply → List ℤ → List ℕ → List ℕ → Reply
full_reply (bare.Started t) answers cycle fell = reply.Started t
full_reply bare.NoProcedure answers cycle fell = reply.NoProcedure
full_reply bare.BadArgs answers cycle fell = reply.BadArgs
full_reply bare.Spent answers cycle fell = reply.Spent
full_reply bare.Full answers cycle fell = reply.Full
full_reply bare.Unknown answers cycle fell = reply.Unknown
full_reply (bare.Over f) answers cycle fell = reply.Over (full_fate f cycle)
full_reply (bare.Looked k v) answers cycle fell = reply.Looked k v
full_reply (bare.Wrote k v) answers cycle fell = reply.Wrote k v
full_reply bare.Ended answers cycle fell = reply.Ended
full_reply bare.NotEnded answers cycle fell = reply.NotEnded
full_reply (bare.Waits t) answers cycle fell = reply.Waits t
full_reply bare.Committed answers cycle fell = reply.Committed answers
full_reply (bare.Aborted c) answers cycle fell = reply.Aborted (full_cause c cycle) fell
full_reply (bare.Refused code) answers cycle fell = reply.Refused code fell

-- the same, with the lists of a reply
abbrev pub reply_with : ShortReply → ReplyLists → Reply
reply_with r lists = full_reply r lists.answers lists.cycle lists.fell

-- no lists
abbrev pub no_lists : ReplyLists
no_lists = record { answers = []; cycle = []; fell = [] }

-- the kind has lists, or may have
abbrev pub holds_lists : ShortReply → Bool
holds_lists (bare.Over f) = true
holds_lists bare.Committed = true
holds_lists (bare.Aborted c) = true
holds_lists (bare.Refused code) = true
holds_lists _ = false

-- without the lists

abbrev pub short_cause : Cause → ShortCause
short_cause (cause.Cycle cycle) = bare_cause.Cycle
short_cause (cause.Asked code) = bare_cause.Asked code
short_cause cause.Quit = bare_cause.Quit

abbrev pub short_fate : Fate → ShortFate
short_fate fate.Committed = bare_fate.Committed
short_fate (fate.Aborted c) = bare_fate.Aborted (short_cause c)
short_fate (fate.Fell t) = bare_fate.Fell t

abbrev pub short_reply : Reply → ShortReply
short_reply (reply.Started t) = bare.Started t
short_reply reply.NoProcedure = bare.NoProcedure
short_reply reply.BadArgs = bare.BadArgs
short_reply reply.Spent = bare.Spent
short_reply reply.Full = bare.Full
short_reply reply.Unknown = bare.Unknown
short_reply (reply.Over f) = bare.Over (short_fate f)
short_reply (reply.Looked k v) = bare.Looked k v
short_reply (reply.Wrote k v) = bare.Wrote k v
short_reply reply.Ended = bare.Ended
short_reply reply.NotEnded = bare.NotEnded
short_reply (reply.Waits t) = bare.Waits t
short_reply (reply.Committed answers) = bare.Committed
short_reply (reply.Aborted c fell) = bare.Aborted (short_cause c)
short_reply (reply.Refused code fell) = bare.Refused code

-- the lists

-- the path of a cause: the cycle that it names
abbrev pub cause_cycle : Cause → List ℕ
cause_cycle (cause.Cycle cycle) = cycle
cause_cycle _ = []

-- the path of a fate
abbrev pub fate_cycle : Fate → List ℕ
fate_cycle (fate.Aborted c) = cause_cycle c
fate_cycle _ = []

-- the answers of a commit
abbrev pub answers_in : Reply → List ℤ
answers_in (reply.Committed answers) = answers
answers_in _ = []

-- the path that a reply reports
abbrev pub cycle_of_reply : Reply → List ℕ
cycle_of_reply (reply.Over f) = fate_cycle f
cycle_of_reply (reply.Aborted c fell) = cause_cycle c
cycle_of_reply _ = []

-- those aborted in cascade with the transaction that the reply ends
abbrev pub fell_in : Reply → List ℕ
fell_in (reply.Aborted c fell) = fell
fell_in (reply.Refused code fell) = fell
fell_in _ = []
