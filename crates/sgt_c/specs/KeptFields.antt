-- Which fields count for a reply, an event or a fault, as C reads it. The others keep their old values.
use Rattle.std.specs.Prelude.{◌≡◌, ◌≢◌, ℕ, Bool, true, false, ◌&&◌, ◌||◌, cond, nat_eq, drop, List, [], ◌∷◌}
use Rattle.sgt_c.specs.declared.event_struct.SgtEvent.{SgtEvent}
use Rattle.sgt_c.specs.declared.fault_struct.SgtFault.{SgtFault}
use Rattle.sgt_c.specs.declared.reply_struct.SgtOutcome.{SgtOutcome}
use Rattle.sgt_c.specs.declared.reply_struct.SgtReply.{SgtReply}

-- ---- the fields of a kind of reply

-- how a transaction ended, or why it is aborted
abbrev pub has_cause : SgtReply → Bool
has_cause s = nat_eq s.kind 7 || nat_eq s.kind 14

-- the cause is this one
abbrev pub is_by : SgtReply → ℕ → Bool
is_by s cause = has_cause s && nat_eq s.cause cause

-- the transaction that was started, that is waited for, or whose abort began the cascade
abbrev pub has_tid : SgtReply → Bool
has_tid s = nat_eq s.kind 1 || nat_eq s.kind 12 || is_by s 4

-- the code that the procedure raised
abbrev pub has_code : SgtReply → Bool
has_code s = nat_eq s.kind 15 || is_by s 2

-- the record that was read or written
abbrev pub has_record : SgtReply → Bool
has_record s = nat_eq s.kind 8 || nat_eq s.kind 9

-- the value that was written, or that a read found; a removal writes none
abbrev pub has_value : SgtReply → Bool
has_value s = has_record s && nat_eq s.found 1

-- the answers of a commit
abbrev pub has_answers : SgtReply → Bool
has_answers s = nat_eq s.kind 13

-- the path of a cycle
abbrev pub has_walk : SgtReply → Bool
has_walk s = is_by s 1

-- those aborted in cascade
abbrev pub has_fallen : SgtReply → Bool
has_fallen s = nat_eq s.kind 14 || nat_eq s.kind 15

-- ---- the other fields

-- if a list has a number of items, the items after them are as before; else all are
abbrev pub KeepsAfter : {A : Type 0} → Bool → ℕ → List A → List A → Type 0
KeepsAfter has count old new = drop (cond has count 0) new ≡ drop (cond has count 0) old

-- each field that does not count for the new reply is as before; of a list that does, the items after its last one
pub record KeepsOtherFields (old new : SgtReply) : Type 0 where
  pub cause : has_cause new ≡ false → new.cause ≡ old.cause
  pub tid : has_tid new ≡ false → new.tid ≡ old.tid
  pub code : has_code new ≡ false → new.code ≡ old.code
  pub table : has_record new ≡ false → new.table ≡ old.table
  pub found : has_record new ≡ false → new.found ≡ old.found
  pub number : has_record new ≡ false → new.number ≡ old.number
  pub value : has_value new ≡ false → new.value ≡ old.value
  pub answers : has_answers new ≡ false → new.answers ≡ old.answers
  pub walked : has_walk new ≡ false → new.walked ≡ old.walked
  pub fallen : has_fallen new ≡ false → new.fallen ≡ old.fallen
  pub spare : new.spare ≡ old.spare
  pub answer : KeepsAfter (has_answers new) new.answers old.answer new.answer
  pub walk : KeepsAfter (has_walk new) new.walked old.walk new.walk
  pub fell : KeepsAfter (has_fallen new) new.fallen old.fell new.fell

-- a call writes its reply, or, if its status is not 0, it does not
abbrev pub WritesReply : ℕ → SgtReply → SgtReply → Type 0
WritesReply status old new = (status ≡ 0 → KeepsOtherFields old new) × (status ≢ 0 → new ≡ old)

-- so does the reply of each outcome
abbrev pub KeepOtherFields : List SgtOutcome → List SgtOutcome → Type 0
KeepOtherFields [] new = new ≡ []
KeepOtherFields (o ∷ old) [] = ⊥
KeepOtherFields (o ∷ old) (n ∷ new) = KeepsOtherFields o.reply n.reply × KeepOtherFields old new

-- of an event, the record of an access that the caller decided on
abbrev pub has_access : SgtEvent → Bool
has_access s = nat_eq s.kind 5 || nat_eq s.kind 6 || nat_eq s.kind 7

-- the same of an event
pub record KeepsOtherEventFields (old new : SgtEvent) : Type 0 where
  pub tid : nat_eq new.kind 1 ≡ true → new.tid ≡ old.tid
  pub procedure : nat_eq new.kind 1 ≡ false → new.procedure ≡ old.procedure
  pub args : nat_eq new.kind 1 ≡ false → new.args ≡ old.args
  pub arg : KeepsAfter (nat_eq new.kind 1) new.args old.arg new.arg
  pub table : has_access new ≡ false → new.table ≡ old.table
  pub spare : new.spare ≡ old.spare
  pub number : has_access new ≡ false → new.number ≡ old.number
  pub value : nat_eq new.kind 6 ≡ false → new.value ≡ old.value

-- the same of a fault
pub record KeepsOtherFaultFields (old new : SgtFault) : Type 0 where
  pub number : (nat_eq new.kind 19 || nat_eq new.kind 21) ≡ false → new.number ≡ old.number
  pub procedure : (nat_eq new.kind 20 || nat_eq new.kind 21) ≡ false → new.procedure ≡ old.procedure
  pub depth : nat_eq new.kind 20 ≡ false → new.depth ≡ old.depth
  pub spare : new.spare ≡ old.spare
  pub place : KeepsAfter (nat_eq new.kind 20) new.depth old.place new.place
