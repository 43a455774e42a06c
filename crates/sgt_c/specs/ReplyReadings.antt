-- Which reply the fields of a struct say.
use Rattle.std.specs.Prelude.{◌≤◌, ℕ, ℤ, cond, ◌&&◌, nat_eq, nat_le, take, slice_get, List, [], ◌∷◌, Option, Some, None, option_map, option_and_then, ⊤}
use Rattle.sgt_model.specs.Contents.{Key}
use Rattle.sgt_model.specs.Numbers.{IsValue, is_value}
use Rattle.sgt_model.specs.declared.reply.Reply.{Reply}
use Rattle.sgt_model.specs.declared.reply.Reply.TheVariants as reply
use Rattle.sgt_model.specs.declared.reply.Cause.{Cause}
use Rattle.sgt_model.specs.declared.reply.Cause.TheVariants as cause
use Rattle.sgt_model.specs.declared.reply.Fate.{Fate}
use Rattle.sgt_model.specs.declared.reply.Fate.TheVariants as fate
use Rattle.sgt_c.specs.declared.reply_struct.SgtReply.{SgtReply}
use Rattle.sgt_c.specs.ReplyStructs.{HoldsReply}

-- ---- what an engine may say

-- a table from 0 to 7, and a number that is a value
abbrev pub IsKey : Key → Type 0
IsKey key = (key.0 ≤ 7) × IsValue key.1

-- the code fits 16 bits
abbrev pub IsCause : Cause → Type 0
IsCause (cause.Cycle walk) = ⊤
IsCause (cause.Asked code) = code ≤ 65535
IsCause cause.Quit = ⊤

-- the code of its cause fits 16 bits
abbrev pub IsFate : Fate → Type 0
IsFate fate.Committed = ⊤
IsFate (fate.Aborted why) = IsCause why
IsFate (fate.Fell first) = ⊤

-- its keys are keys, and its code fits 16 bits
abbrev pub IsReply : Reply → Type 0
IsReply (reply.Over fate) = IsFate fate
IsReply (reply.Looked key value) = IsKey key
IsReply (reply.Wrote key value) = IsKey key
IsReply (reply.Aborted why fell) = IsCause why
IsReply (reply.Refused code fell) = code ≤ 65535
IsReply _ = ⊤

-- the fields say exactly this reply, and an engine may return it
abbrev pub HoldsValidReply : SgtReply → Reply → Type 0
HoldsValidReply s r = HoldsReply s r × IsReply r

-- ---- read back

-- the value in a nested option, if there is one
abbrev pub joined : {A : Type 0} → Option (Option A) → Option A
joined = option_and_then (λ o. o)

-- the code, if it fits 16 bits
abbrev pub code_in : SgtReply → Option ℕ
code_in s = cond (nat_le s.code 65535) (Some s.code) None

-- the key, if its numbers are in their ranges
abbrev pub key_in : SgtReply → Option Key
key_in s = cond (nat_le s.table 7 && is_value s.number) (Some (s.table, s.number)) None

-- no value for 0, the value for 1
abbrev pub found_in : SgtReply → Option (Option ℤ)
found_in s = slice_get (None ∷ Some s.value ∷ []) s.found

-- the meaning of each cause number, from 0 on
abbrev pub causes_in : SgtReply → List (Option Cause)
causes_in s = None ∷ Some (cause.Cycle (take s.walked s.walk)) ∷ option_map cause.Asked (code_in s) ∷ Some cause.Quit ∷ []

-- the cause with this number, if there is one
abbrev pub cause_in : SgtReply → Option Cause
cause_in s = joined (slice_get (causes_in s) s.cause)

-- how a transaction ended, by this number: 0 by its commit, 4 by a cascading abort, else by the cause
abbrev pub fate_by : ℕ → SgtReply → Option Fate
fate_by n s = cond (nat_eq n 0) (Some fate.Committed) (cond (nat_eq n 4) (Some (fate.Fell s.tid)) (option_map fate.Aborted (cause_in s)))

-- the same by the number in the fields
abbrev pub fate_in : SgtReply → Option Fate
fate_in s = fate_by s.cause s

-- the meaning of each kind, from 0 on
abbrev pub replies_in : SgtReply → List (Option Reply)
replies_in s = None ∷ Some (reply.Started s.tid) ∷ Some reply.NoProcedure ∷ Some reply.BadArgs ∷ Some reply.Spent ∷ Some reply.Full
    ∷ Some reply.Unknown ∷ option_map reply.Over (fate_in s)
    ∷ option_and_then (λ key. option_map (reply.Looked key) (found_in s)) (key_in s)
    ∷ option_and_then (λ key. option_map (reply.Wrote key) (found_in s)) (key_in s)
    ∷ Some reply.Ended ∷ Some reply.NotEnded ∷ Some (reply.Waits s.tid) ∷ Some (reply.Committed (take s.answers s.answer))
    ∷ option_map (λ why. reply.Aborted why (take s.fallen s.fell)) (cause_in s)
    ∷ option_map (λ code. reply.Refused code (take s.fallen s.fell)) (code_in s) ∷ []

-- the reply with this kind, if there is one
abbrev pub reply_in : SgtReply → Option Reply
reply_in s = joined (slice_get (replies_in s) s.kind)
