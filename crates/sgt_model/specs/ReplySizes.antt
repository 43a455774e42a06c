-- How many transactions a reply names: at most as many as may be live at once, so a list of that capacity holds them.
use Rattle.std.specs.Prelude.{ℕ, ◌<◌, ◌≤◌, length}
use Rattle.sgt_model.specs.declared.event.Event.{Event}
use Rattle.sgt_model.specs.declared.reply.Reply.{Reply}
use Rattle.sgt_model.specs.declared.reply.Reply.TheVariants as reply
use Rattle.sgt_model.specs.declared.reply.Cause.{Cause}
use Rattle.sgt_model.specs.declared.reply.Cause.TheVariants as cause
use Rattle.sgt_model.specs.declared.reply.Fate.{Fate}
use Rattle.sgt_model.specs.declared.reply.Fate.TheVariants as fate
use Rattle.sgt_model.specs.Legality.{LegalReply}
use Rattle.sgt_model.specs.Laws.{InEach}

-- the path of a cycle has at most this many members
abbrev pub CauseNamesAtMost : ℕ → Cause → Type 0
CauseNamesAtMost most (cause.Cycle cycle) = length cycle ≤ most
CauseNamesAtMost most (cause.Asked code) = Unit {0}
CauseNamesAtMost most cause.Quit = Unit {0}

-- the path of a fate has at most this many members
abbrev pub FateNamesAtMost : ℕ → Fate → Type 0
FateNamesAtMost most (fate.Aborted why) = CauseNamesAtMost most why
FateNamesAtMost most fate.Committed = Unit {0}
FateNamesAtMost most (fate.Fell u) = Unit {0}

-- a reply names at most this many: in a path, or as the aborted transaction and those aborted in cascade
abbrev pub ReplyNamesAtMost : ℕ → Reply → Type 0
ReplyNamesAtMost most (reply.Aborted why fell) = CauseNamesAtMost most why × (length fell < most)
ReplyNamesAtMost most (reply.Refused code fell) = length fell < most
ReplyNamesAtMost most (reply.Over ended) = FateNamesAtMost most ended
ReplyNamesAtMost most _ = Unit {0}

-- after a legal history no legal reply names more transactions than may be live at once
abbrev pub RepliesNameFew : Type 0
RepliesNameFew = InEach (λ s past. (event : Event) (r : Reply) → LegalReply s past event r → ReplyNamesAtMost s.rules.limits.live r)
