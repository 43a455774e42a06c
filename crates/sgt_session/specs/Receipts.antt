-- Single receipts.
use Rattle.std.specs.Prelude.{◌≡◌, ℕ, true, List, [], ◌∷◌, ◌++◌, length, slice_get, Some}
use Rattle.sgt_model.specs.declared.event.Event.{Event}
use Rattle.sgt_model.specs.declared.event.Event.TheVariants.{Commit}
use Rattle.sgt_model.specs.declared.entry.Entry.{Entry}
use Rattle.sgt_model.specs.Legality.{LegalReply}
use Rattle.sgt_model.specs.Questions.{is_wait}
use Rattle.sgt_log.specs.declared.step_kind.StepKind.{StepKind}
use Rattle.sgt_log.specs.StepKinds.{IsOfKind}
use Rattle.sgt_engine.specs.EngineView.{EngineView, configuration_of, with_entry}
use Rattle.sgt_session.specs.declared.receipt.Receipt.{Receipt}

-- the receipt of the entry of this number
abbrev pub receipt_of : ℕ → Entry → Receipt
receipt_of number e = record { number = number; event = e.event; reply = e.reply }

-- the receipts of entries that have these numbers
abbrev pub receipts_of : List ℕ → List Entry → List Receipt
receipts_of [] es = []
receipts_of (n ∷ ns) [] = []
receipts_of (n ∷ ns) (e ∷ es) = receipt_of n e ∷ receipts_of ns es

-- what callers see of a session's receipts: the receipts, in the order of its calls, and the capacity for more
pub record ReceiptsView : Type 0 where
  pub receipts : List Receipt
  pub spare : ℕ

-- the entry of a receipt
abbrev pub entry_of : Receipt → Entry
entry_of r = record { event = r.event; reply = r.reply }

-- a call of this event was made: its receipt is the last one
abbrev pub HasCalled : Event → List Receipt → List Receipt → Type 0
HasCalled event old new = (r : Receipt) × (r.event ≡ event) × (new ≡ old ++ r ∷ [])

-- the same, and the receipt is of an entry of this kind
abbrev pub HasMade : Event → List Receipt → List Receipt → StepKind → Type 0
HasMade event old new kind = (r : Receipt) × (r.event ≡ event) × (new ≡ old ++ r ∷ []) × IsOfKind kind (entry_of r)

-- the engine has answered this event legally, and the receipt of that entry, which is of this kind, is the last one
abbrev pub HasFiled : Event → EngineView → EngineView → List Receipt → List Receipt → StepKind → Type 0
HasFiled event before now old new kind = (r : Receipt) × (r.event ≡ event) × (r.number ≡ length before.past)
    × (now ≡ with_entry r.event r.reply before)
    × LegalReply (configuration_of before) before.past r.event r.reply
    × (new ≡ old ++ r ∷ []) × IsOfKind kind (entry_of r)

-- the receipt's entry is in the history, at its number
abbrev pub ReceiptStands : List Entry → Receipt → Type 0
ReceiptStands history r = slice_get history r.number ≡ Some (entry_of r)

-- the receipt at this index is that of the history's entry with this number
abbrev pub IsReceiptAt : List Receipt → ℕ → List Entry → ℕ → Type 0
IsReceiptAt receipts at history number = (e : Entry) → slice_get history number ≡ Some e → slice_get receipts at ≡ Some (receipt_of number e)

-- this is the newest entry of a history that is listed newest first
abbrev pub IsNewest : Entry → List Entry → Type 0
IsNewest entry past = (before : List Entry) × (past ≡ entry ∷ before)

-- its newest entry is that of a commit that has to wait
abbrev pub NewestWaits : List Entry → Type 0
NewestWaits [] = ⊥
NewestWaits (e ∷ before) = is_wait e.reply ≡ true

-- a commit of t that has to wait
abbrev pub IsWaitOf : ℕ → Receipt → Type 0
IsWaitOf t r = (r.event ≡ Commit t) × (is_wait r.reply ≡ true)
