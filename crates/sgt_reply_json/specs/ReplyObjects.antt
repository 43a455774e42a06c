-- Replies as objects of JSON, each with the end of its line.
use Rattle.std.specs.Prelude.{ℕ, ℤ, List, [], ◌∷◌, ◌++◌, Option, Some, None, codes}
use Rattle.std.specs.Fmt.{decimal, signed_decimal}
use Rattle.sgt_model.specs.Contents.{Key}
use Rattle.sgt_model.specs.Questions.{named_by, started_in}
use Rattle.sgt_model.specs.declared.event.Event.{Event}
use Rattle.sgt_model.specs.declared.reply.Reply.{Reply}
use Rattle.sgt_model.specs.declared.reply.Reply.TheVariants as reply
use Rattle.sgt_model.specs.declared.reply.Fate.{Fate}
use Rattle.sgt_model.specs.declared.reply.Fate.TheVariants as fate
use Rattle.sgt_model.specs.declared.reply.Cause.{Cause}
use Rattle.sgt_model.specs.declared.reply.Cause.TheVariants as cause
use Rattle.sgt_reply_json.specs.Lists.{joined, list_text}

-- members that start with these bytes, and the number that ends the object
abbrev pub numbered : List ℕ → ℕ → List ℕ
numbered start n = joined (start ∷ decimal n ∷ codes "}\n" ∷ [])

-- an access of a record, with this end
unfoldable pub key_members : List ℕ → Key → List ℕ → List ℕ
key_members words key end = joined (codes "\"reply\":\"" ∷ words ∷ codes "\",\"table\":" ∷ decimal key.0 ∷ codes ",\"number\":"
    ∷ signed_decimal key.1 ∷ end ∷ [])

-- an access of a record, with its value
unfoldable pub value_members : List ℕ → Key → ℤ → List ℕ
value_members words key value = key_members words key (codes ",\"value\":") ++ joined (signed_decimal value ∷ codes "}\n" ∷ [])

-- what a read found
abbrev pub looked_members : Key → Option ℤ → List ℕ
looked_members key (Some value) = value_members (codes "read") key value
looked_members key None = key_members (codes "read") key (codes ",\"value\":null}\n")

-- what a write wrote, or that it removed the record
abbrev pub wrote_members : Key → Option ℤ → List ℕ
wrote_members key (Some value) = value_members (codes "wrote") key value
wrote_members key None = key_members (codes "removed") key (codes "}\n")

-- why a transaction was aborted that has ended; a cycle begins with that transaction
abbrev pub over_aborted_members : Cause → List ℕ
over_aborted_members (cause.Cycle cycle) = joined (codes "\"reply\":\"over\",\"fate\":\"aborted\",\"cause\":\"cycle\",\"cycle\":"
    ∷ list_text decimal cycle ∷ codes "}\n" ∷ [])
over_aborted_members (cause.Asked code) = numbered (codes "\"reply\":\"over\",\"fate\":\"aborted\",\"cause\":\"code\",\"code\":") code
over_aborted_members cause.Quit = codes "\"reply\":\"over\",\"fate\":\"aborted\",\"cause\":\"quit\"}\n"

-- how a transaction ended: committed, aborted, or aborted in cascade with the one whose abort started the cascade
abbrev pub over_members : Fate → List ℕ
over_members fate.Committed = codes "\"reply\":\"over\",\"fate\":\"committed\"}\n"
over_members (fate.Aborted why) = over_aborted_members why
over_members (fate.Fell first) = numbered (codes "\"reply\":\"over\",\"fate\":\"cascade\",\"with\":") first

-- the answers of a transaction that is committed
abbrev pub committed_members : List ℤ → List ℕ
committed_members answers = joined (codes "\"reply\":\"committed\",\"answers\":" ∷ list_text signed_decimal answers ∷ codes "}\n" ∷ [])

-- why a transaction is aborted, and which are aborted in cascade
abbrev pub aborted_members : Cause → List ℕ → List ℕ
aborted_members (cause.Cycle cycle) fell = joined (codes "\"reply\":\"aborted\",\"cause\":\"cycle\",\"cycle\":" ∷ list_text decimal cycle
    ∷ codes ",\"cascade\":" ∷ list_text decimal fell ∷ codes "}\n" ∷ [])
aborted_members (cause.Asked code) fell = joined (codes "\"reply\":\"aborted\",\"cause\":\"code\",\"code\":" ∷ decimal code
    ∷ codes ",\"cascade\":" ∷ list_text decimal fell ∷ codes "}\n" ∷ [])
aborted_members cause.Quit fell = joined (codes "\"reply\":\"aborted\",\"cause\":\"quit\",\"cascade\":" ∷ list_text decimal fell
    ∷ codes "}\n" ∷ [])

-- the code with which a transaction is refused at its commit, and which are aborted in cascade
abbrev pub refused_members : ℕ → List ℕ → List ℕ
refused_members code fell = joined (codes "\"reply\":\"refused\",\"code\":" ∷ decimal code ∷ codes ",\"cascade\":"
    ∷ list_text decimal fell ∷ codes "}\n" ∷ [])

-- the members of a reply after its transaction
abbrev pub reply_members : Reply → List ℕ
reply_members (reply.Started t) = codes "\"reply\":\"started\"}\n"
reply_members reply.NoProcedure = codes "\"reply\":\"no procedure\"}\n"
reply_members reply.BadArgs = codes "\"reply\":\"bad args\"}\n"
reply_members reply.Spent = codes "\"reply\":\"spent\"}\n"
reply_members reply.Full = codes "\"reply\":\"full\"}\n"
reply_members reply.Unknown = codes "\"reply\":\"unknown\"}\n"
reply_members (reply.Over ended) = over_members ended
reply_members (reply.Looked key value) = looked_members key value
reply_members (reply.Wrote key value) = wrote_members key value
reply_members reply.Ended = codes "\"reply\":\"ended\"}\n"
reply_members reply.NotEnded = codes "\"reply\":\"not ended\"}\n"
reply_members (reply.Waits first) = numbered (codes "\"reply\":\"waits\",\"for\":") first
reply_members (reply.Committed answers) = committed_members answers
reply_members (reply.Aborted why fell) = aborted_members why fell
reply_members (reply.Refused code fell) = refused_members code fell

-- the start of an object that has this transaction
abbrev pub transaction_start : ℕ → List ℕ
transaction_start t = joined (codes "{\"transaction\":" ∷ decimal t ∷ codes "," ∷ [])

-- the start of an object: the transaction that its event names, or else has started
abbrev pub object_start : (named started : Option ℕ) → List ℕ
object_start (Some t) started = transaction_start t
object_start None (Some t) = transaction_start t
object_start None None = codes "{"

-- a reply to an event
abbrev pub reply_object : Event → Reply → List ℕ
reply_object event reply = object_start (named_by event) (started_in event reply) ++ reply_members reply

-- a cut dropped this many events
abbrev pub cut_object : ℕ → List ℕ
cut_object events = numbered (codes "{\"reply\":\"cut\",\"events\":") events

-- nothing was cut, as a transaction is live
abbrev pub still_live_object : List ℕ
still_live_object = codes "{\"reply\":\"still live\"}\n"
