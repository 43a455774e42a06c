-- The bank in a replay: what each committed or refused transaction of one of the five procedures did, and its reply.
use Rattle.std.specs.Prelude.{◌≡◌, ◌<◌, List, [], ◌∷◌, ◌++◌, None}
use Rattle.sgt_model.specs.declared.entry.Entry.{Entry}
use Rattle.sgt_model.specs.declared.limits.Limits.{Limits}
use Rattle.sgt_model.specs.declared.event.Event.{Event}
use Rattle.sgt_model.specs.declared.reply.Reply.{Reply}
use Rattle.sgt_model.specs.declared.reply.Reply.TheVariants as reply
use Rattle.sgt_model.specs.Contents.{Contents}
use Rattle.sgt_model.specs.Syntax.{ProcedureText}
use Rattle.sgt_model.specs.Runs.{Done, Asked, with_accesses}
use Rattle.sgt_model.specs.Configurations.{Configuration, configuration}
use Rattle.sgt_model.specs.Legality.{Legal}
use Rattle.sgt_model.specs.Fates.{subject}
use Rattle.sgt_model.specs.Progress.{call_of, caller_accesses}
use Rattle.sgt_model.specs.Replay.{folded}
use Rattle.sgt_model.specs.StoredValues.{HoldValues}
use Rattle.sgt_smallbank.specs.declared.account.Account.{Account}
use Rattle.sgt_smallbank.specs.Texts.{procedures}
use Rattle.sgt_smallbank.specs.Arithmetic.{bank}
use Rattle.sgt_smallbank.specs.Accounts.{opened, fault_of}

-- an entry that commits a transaction of one of the five procedures, which are numbered from 0: on the contents that
-- those before it left, the bank's arithmetic, and then the accesses that its caller made, end with the answers of the reply,
-- and leave the contents with which the replay continues. An entry that refuses one: on those contents, the bank's arithmetic raises the code of the
-- reply, and the replay continues with the same contents
abbrev pub CommitIsBank : Configuration → List Entry → Event → Reply → Type 0
CommitIsBank s past event (reply.Committed answers) =
    (call_of past (subject event)).procedure < 5
    → with_accesses (caller_accesses past (subject event)) (bank (call_of past (subject event)).procedure (call_of past (subject event)).args (folded s past).last)
    ≡ Done answers (folded s (record { event = event; reply = reply.Committed answers } ∷ past)).last
CommitIsBank s past event (reply.Refused code fell) =
    (call_of past (subject event)).procedure < 5
    → (bank (call_of past (subject event)).procedure (call_of past (subject event)).args (folded s past).last ≡ Asked code)
    × ((folded s (record { event = event; reply = reply.Refused code fell } ∷ past)).last ≡ (folded s past).last)
CommitIsBank s past event _ = Unit {0}

-- this holds for each entry
abbrev pub CommitsAreBank : Configuration → List Entry → Type 0
CommitsAreBank s [] = Unit {0}
CommitsAreBank s (e ∷ past) = CommitsAreBank s past × CommitIsBank s past e.event e.reply

-- the configuration with the bank's procedures, followed by these
abbrev pub bank_configuration : Contents → List ProcedureText → Limits → Configuration
bank_configuration opening others limits = configuration opening (procedures ++ others) limits

-- if the initial database holds values, this holds in every legal history
abbrev pub ReplayIsBank : Type 0
ReplayIsBank = (opening : Contents) (others : List ProcedureText) (limits : Limits) (past : List Entry) → HoldValues opening → Legal (bank_configuration opening others limits) past → CommitsAreBank (bank_configuration opening others limits) past

-- the initial database of accounts without a fault holds values
abbrev pub OpeningsHoldValues : Type 0
OpeningsHoldValues = (accounts : List Account) → fault_of accounts ≡ None → HoldValues (opened accounts)
