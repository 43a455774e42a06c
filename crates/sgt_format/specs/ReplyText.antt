-- The line of a reply.
use Rattle.std.specs.Prelude.{ℕ, ℤ, List, ◌++◌, Option, Some, None, codes}
use Rattle.std.specs.Fmt.{decimal, signed_decimal}
use Rattle.sgt_model.specs.Contents.{Key}
use Rattle.sgt_model.specs.declared.reply.Reply.{Reply}
use Rattle.sgt_model.specs.declared.reply.Reply.TheVariants as reply
use Rattle.sgt_model.specs.declared.reply.Fate.{Fate}
use Rattle.sgt_model.specs.declared.reply.Fate.TheVariants as fate
use Rattle.sgt_model.specs.declared.reply.Cause.{Cause}
use Rattle.sgt_model.specs.declared.reply.Cause.TheVariants as cause
use Rattle.sgt_format.specs.Decimals.{key_text, record_text, each_item, items_or_none}

-- why a transaction was aborted; a cycle begins with that transaction
abbrev pub cause_text : Cause → List ℕ
cause_text (cause.Cycle cycle) = codes "cycle" ++ each_item decimal cycle
cause_text (cause.Asked code) = codes "asked " ++ decimal code
cause_text cause.Quit = codes "quit"

-- how a transaction ended
abbrev pub over_text : Fate → List ℕ
over_text fate.Committed = codes "over committed"
over_text (fate.Aborted cause) = codes "over aborted " ++ cause_text cause
over_text (fate.Fell first) = codes "over fell " ++ decimal first

-- what a read found
abbrev pub looked_text : Key → Option ℤ → List ℕ
looked_text key (Some value) = codes "read " ++ record_text key value
looked_text key None = codes "read " ++ key_text key ++ codes " none"

-- what a write wrote, or that it removed the record
abbrev pub wrote_text : Key → Option ℤ → List ℕ
wrote_text key (Some value) = codes "wrote " ++ record_text key value
wrote_text key None = codes "removed " ++ key_text key

-- the answers of a transaction that is committed
abbrev pub committed_text : List ℤ → List ℕ
committed_text answers = codes "committed" ++ items_or_none signed_decimal answers

-- the transactions aborted in cascade with one that is aborted or refused
abbrev pub fell_text : List ℕ → List ℕ
fell_text fell = codes " fell" ++ items_or_none decimal fell

-- why a transaction is aborted, and which were aborted in cascade
abbrev pub aborted_text : Cause → List ℕ → List ℕ
aborted_text cause fell = codes "aborted " ++ cause_text cause ++ fell_text fell

-- the code with which a transaction is refused at its commit, and which were aborted in cascade
abbrev pub refused_text : ℕ → List ℕ → List ℕ
refused_text code fell = codes "refused " ++ decimal code ++ fell_text fell

-- a reply
abbrev pub reply_text : Reply → List ℕ
reply_text (reply.Started t) = codes "started " ++ decimal t
reply_text reply.NoProcedure = codes "no procedure"
reply_text reply.BadArgs = codes "bad args"
reply_text reply.Spent = codes "spent"
reply_text reply.Full = codes "full"
reply_text reply.Unknown = codes "unknown"
reply_text (reply.Over fate) = over_text fate
reply_text (reply.Looked key value) = looked_text key value
reply_text (reply.Wrote key value) = wrote_text key value
reply_text reply.Ended = codes "ended"
reply_text reply.NotEnded = codes "not ended"
reply_text (reply.Waits first) = codes "waits " ++ decimal first
reply_text (reply.Committed answers) = committed_text answers
reply_text (reply.Aborted cause fell) = aborted_text cause fell
reply_text (reply.Refused code fell) = refused_text code fell

-- the line of a reply, with its end
abbrev pub text : Reply → List ℕ
text reply = reply_text reply ++ codes "\n"
