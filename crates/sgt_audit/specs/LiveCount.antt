-- How many transactions a reply starts, and how many it ends.
use Rattle.std.specs.Prelude.{ℕ, ◌+◌, length}
use Rattle.sgt_model.specs.declared.reply.Reply.{Reply}
use Rattle.sgt_model.specs.declared.reply.Reply.TheVariants as reply

-- Started starts one
abbrev pub count_started : Reply → ℕ
count_started (reply.Started t) = 1
count_started _ = 0

-- Committed ends one; Aborted and Refused end one, and all that are aborted in cascade with it
abbrev pub count_ended : Reply → ℕ
count_ended (reply.Committed answers) = 1
count_ended (reply.Aborted why fell) = length fell + 1
count_ended (reply.Refused code fell) = length fell + 1
count_ended _ = 0
