-- What the fields of a reply say to C.
use Rattle.std.specs.Prelude.{◌≡◌, ℕ, ℤ, take, Option, Some, None}
use Rattle.sgt_model.specs.Contents.{Key}
use Rattle.sgt_model.specs.declared.reply.Reply.{Reply}
use Rattle.sgt_model.specs.declared.reply.Reply.TheVariants as reply
use Rattle.sgt_model.specs.declared.reply.Cause.{Cause}
use Rattle.sgt_model.specs.declared.reply.Cause.TheVariants as cause
use Rattle.sgt_model.specs.declared.reply.Fate.{Fate}
use Rattle.sgt_model.specs.declared.reply.Fate.TheVariants as fate
use Rattle.sgt_c.specs.declared.reply_struct.SgtReply.{SgtReply}

-- 1 for a cycle with its path, 2 for a code that the procedure raised, 3 for an abort by the caller
abbrev pub HoldsCause : SgtReply → Cause → Type 0
HoldsCause s (cause.Cycle walk) = (s.cause ≡ 1) × (take s.walked s.walk ≡ walk)
HoldsCause s (cause.Asked code) = (s.cause ≡ 2) × (s.code ≡ code)
HoldsCause s cause.Quit = s.cause ≡ 3

-- 0 for a commit; 4 for a cascading abort, with the transaction that began it; else the cause
abbrev pub HoldsFate : SgtReply → Fate → Type 0
HoldsFate s fate.Committed = s.cause ≡ 0
HoldsFate s (fate.Aborted why) = HoldsCause s why
HoldsFate s (fate.Fell first) = (s.cause ≡ 4) × (s.tid ≡ first)

-- what a read found, or a write wrote: 1 with the value, or 0 for none
abbrev pub HoldsFound : SgtReply → Option ℤ → Type 0
HoldsFound s None = s.found ≡ 0
HoldsFound s (Some value) = (s.found ≡ 1) × (s.value ≡ value)

-- the kind of an access, its record, and what it found or wrote
abbrev pub HoldsAccess : SgtReply → ℕ → Key → Option ℤ → Type 0
HoldsAccess s kind key value = (s.kind ≡ kind) × (s.table ≡ key.0) × (s.number ≡ key.1) × HoldsFound s value

-- the kind and the fields that belong to it
abbrev pub HoldsReply : SgtReply → Reply → Type 0
HoldsReply s (reply.Started t) = (s.kind ≡ 1) × (s.tid ≡ t)
HoldsReply s reply.NoProcedure = s.kind ≡ 2
HoldsReply s reply.BadArgs = s.kind ≡ 3
HoldsReply s reply.Spent = s.kind ≡ 4
HoldsReply s reply.Full = s.kind ≡ 5
HoldsReply s reply.Unknown = s.kind ≡ 6
HoldsReply s (reply.Over fate) = (s.kind ≡ 7) × HoldsFate s fate
HoldsReply s (reply.Looked key value) = HoldsAccess s 8 key value
HoldsReply s (reply.Wrote key value) = HoldsAccess s 9 key value
HoldsReply s reply.Ended = s.kind ≡ 10
HoldsReply s reply.NotEnded = s.kind ≡ 11
HoldsReply s (reply.Waits first) = (s.kind ≡ 12) × (s.tid ≡ first)
HoldsReply s (reply.Committed answers) = (s.kind ≡ 13) × (take s.answers s.answer ≡ answers)
HoldsReply s (reply.Aborted why fell) = (s.kind ≡ 14) × HoldsCause s why × (take s.fallen s.fell ≡ fell)
HoldsReply s (reply.Refused code fell) = (s.kind ≡ 15) × (s.code ≡ code) × (take s.fallen s.fell ≡ fell)
