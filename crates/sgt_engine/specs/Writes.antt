-- Which keys a history has writes of, committed or not, and which replies report a removal.
use Rattle.std.specs.Prelude.{Bool, true, false, ◌||◌, List, [], ◌∷◌, None}
use Rattle.sgt_model.specs.declared.entry.Entry.{Entry}
use Rattle.sgt_model.specs.declared.reply.Reply.{Reply}
use Rattle.sgt_model.specs.declared.reply.Reply.TheVariants.{Wrote}
use Rattle.sgt_model.specs.declared.short_reply.ShortReply.{ShortReply}
use Rattle.sgt_model.specs.declared.short_reply.ShortReply.TheVariants as short
use Rattle.sgt_model.specs.Contents.{Key, key_eq}

-- the reply says that the key was written
abbrev pub reports_write : Key → Reply → Bool
reports_write k (Wrote key v) = key_eq key k
reports_write k _ = false

-- one of the entries does
abbrev pub is_written : Key → List Entry → Bool
is_written k [] = false
is_written k (e ∷ entries) = is_written k entries || reports_write k e.reply

-- the reply says that a record was removed
abbrev pub is_removal : ShortReply → Bool
is_removal (short.Wrote key None) = true
is_removal _ = false
