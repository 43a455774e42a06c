-- What the reader stores: the numbers of items, and which transactions have ended.
use Rattle.std.specs.Prelude.{◌≡◌, ◌↔◌, ℕ, Bool, true, false, List, [], ◌∷◌, ◌++◌, Option, Some, IsSome, map, length, slice_get, bytes_eq}
use Rattle.std.specs.HashMap.{get_by}
use Rattle.sgt_classes.specs.declared.operation.Operation.{Operation}
use Rattle.sgt_classes.specs.declared.operation.Action.{Action}
use Rattle.sgt_classes.specs.declared.operation.Action.TheVariants.{Read, Write, Commit, Abort}
use Rattle.sgt_classes.specs.Histories.{EndedBefore}
use Rattle.sgt_classes.specs.Tables.{entry_of}
use Rattle.sgt_notation.specs.Spellings.{IsSpelled}
use Rattle.sgt_notation.specs.declared.items.Items.{Items}
use Rattle.sgt_notation.specs.declared.reader.HistoryReader.{HistoryReader}

-- the texts of the items, by number
abbrev pub texts_of : Items → List (List ℕ)
texts_of items = map (λ text. text.items) items.texts.items

-- the number stored for the text
abbrev pub number_of : Items → List ℕ → Option ℕ
number_of items text = get_by (λ k. bytes_eq text k.items) items.numbers

-- the number stored for a text is that of its item
abbrev pub KnowsItems : Items → Type 0
KnowsItems items = (text : List ℕ) (x : ℕ) → (number_of items text ≡ Some x) ↔ (slice_get (texts_of items) x ≡ Some text)

-- whether the action ends its transaction
abbrev pub is_end : Action → Bool
is_end (Read x) = false
is_end (Write x) = false
is_end Commit = true
is_end Abort = true

-- the transactions that have ended
abbrev pub KnowsEnds : List Operation → (ℕ → Option ℕ) → Type 0
KnowsEnds ops ends = (t : ℕ) → IsSome (ends t) ↔ EndedBefore ops t (length ops)

-- what the reader knows of what it has read
pub record KnowsHistory (r : HistoryReader) : Type 0 where
  pub items : KnowsItems r.items
  pub ends : KnowsEnds r.operations.items (entry_of r.ended)

-- the word is the operation added after the others, of a transaction that had not ended
pub record TakesWord (old new : HistoryReader) (word : List ℕ) : Type 0 where
  pub operation : Operation
  pub more : List (List ℕ)
  pub operations : new.operations.items ≡ old.operations.items ++ operation ∷ []
  pub items : texts_of new.items ≡ texts_of old.items ++ more
  pub spelled : IsSpelled word (texts_of new.items) operation
  pub active : ¬ EndedBefore old.operations.items operation.transaction (length old.operations.items)
