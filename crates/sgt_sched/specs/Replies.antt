-- The effect of a call that returns a short reply, or writes it to a place.
use Rattle.std.specs.Prelude.{Result, Ok, Err}
use Rattle.sgt_model.specs.declared.errors.NoMemory.{NoMemory}
use Rattle.sgt_model.specs.declared.reply.Reply.{Reply}
use Rattle.sgt_model.specs.declared.short_reply.ReplyLists.{ReplyLists}
use Rattle.sgt_model.specs.declared.short_reply.ShortReply.{ShortReply}
use Rattle.sgt_model.specs.ShortReplies.{reply_with}
use Rattle.sgt_model.specs.State.{State}

-- the effect, with the full reply that a short one makes with these lists
abbrev pub WithLists : (State → Reply → State → Type 0) → ReplyLists → State → ShortReply → State → Type 0
WithLists effect lists before r after = effect before (reply_with r lists) after

-- the same, whatever the lists hold
abbrev pub WithAnyLists : (State → Reply → State → Type 0) → State → ShortReply → State → Type 0
WithAnyLists effect before r after = (lists : ReplyLists) → WithLists effect lists before r after

-- what a call returns that writes its reply to a place, with what is there
abbrev pub with_reply : Result (Unit {0}) NoMemory → ShortReply → Result ShortReply NoMemory
with_reply (Ok done) r = Ok r
with_reply (Err error) r = Err error
