-- The textbook's classes of every legal history, for any numbering of its keys.
use Rattle.std.specs.Prelude.{◌≡◌, ◌≢◌, ◌↔◌, true, ℕ, List}
use Rattle.sgt_model.specs.declared.entry.Entry.{Entry}
use Rattle.sgt_model.specs.Contents.{Key}
use Rattle.sgt_model.specs.Fates.{committed}
use Rattle.sgt_model.specs.ReadFrom.{ReadFrom}
use Rattle.sgt_model.specs.Pairs.{Pair}
use Rattle.sgt_model.specs.Configurations.{Configuration}
use Rattle.sgt_model.specs.Legality.{Legal}
use Rattle.sgt_model.specs.Laws.{InEach}
use Rattle.sgt_classes.specs.declared.operation.Operation.{Operation}
use Rattle.sgt_classes.specs.Classes.{ReadsFrom, AvoidsCascadingAborts, IsRecoverable}
use Rattle.sgt_classes.specs.Histories.{IsWellFormed}
use Rattle.sgt_classes.specs.Serializability.{IsEdge, IsCommitOrdered, IsSerialOrder}
use Rattle.sgt_classes.specs.Equivalence.{IsSerializable, IsSerialRun, IsRealTimeRun, IsStrictlySerializable, committed_projection, serial_history}
use Rattle.sgt_classes.specs.ViewEquivalence.{AreViewEquivalent}
use Rattle.sgt_textbook.specs.Textbook.{IsNumbering, textbook, commit_order}

-- what holds for the textbook's history of every legal one, for each numbering of its keys
abbrev pub OfEachTextbook : (List Operation → Type 0) → Type 0
OfEachTextbook P = (number : Key → ℕ) → IsNumbering number → InEach (λ s past. P (textbook number past))

-- what the textbook says of these entries, for any numbering of the keys
pub record TextbookLaws (past : List Entry) : Type 0 where
  pub commit_ordered : (number : Key → ℕ) → IsNumbering number → IsCommitOrdered (textbook number past)
  pub serializable : (number : Key → ℕ) → IsNumbering number → IsSerializable (textbook number past)
  pub recoverable : (number : Key → ℕ) → IsNumbering number → IsRecoverable (textbook number past)

-- it is well formed: no transaction does anything after its commit or abort
abbrev pub AreWellFormed : Type 0
AreWellFormed = OfEachTextbook IsWellFormed

-- it is commit ordered: if operations of two committed transactions conflict, that of the earlier one commits first
abbrev pub AreCommitOrdered : Type 0
AreCommitOrdered = OfEachTextbook IsCommitOrdered

-- it is serializable: its committed projection is conflict equivalent to a serial history
abbrev pub AreSerializable : Type 0
AreSerializable = OfEachTextbook IsSerializable

-- it is recoverable: no transaction commits before one that it has read from
abbrev pub AreRecoverable : Type 0
AreRecoverable = OfEachTextbook IsRecoverable

-- the edges of its serialization graph are the conflicts of committed transactions
abbrev pub EdgesArePairs : Type 0
EdgesArePairs = (number : Key → ℕ) → IsNumbering number → InEach (λ s past. (t u : ℕ) →
    IsEdge (textbook number past) t u ↔ ((committed past t ≡ true) × (committed past u ≡ true) × Pair past t u))

-- at some position r reads from w
abbrev pub ReadsSomewhere : List Operation → ℕ → ℕ → Type 0
ReadsSomewhere h w r = (i : ℕ) × (k : ℕ) × (x : ℕ) × ReadsFrom h i k x w r

-- one reads from another in it exactly if it has read from that one
abbrev pub ReadsAgree : Type 0
ReadsAgree = (number : Key → ℕ) → IsNumbering number → InEach (λ s past. (w r : ℕ) → w ≢ r →
    ReadsSomewhere (textbook number past) w r ↔ ReadFrom past r w)

-- Its committed transactions in commit order are a serial order of it. One after another in this order, they are a
-- serial history that is conflict equivalent to its committed projection.
abbrev pub CommitOrdersAreSerial : Type 0
CommitOrdersAreSerial = (number : Key → ℕ) → IsNumbering number
    → InEach (λ s past. IsSerialOrder (textbook number past) (commit_order past)
    × IsSerialRun (textbook number past) (serial_history (textbook number past) (commit_order past)))

-- This serial history keeps real time.
abbrev pub CommitOrdersKeepRealTime : Type 0
CommitOrdersKeepRealTime = (number : Key → ℕ) → IsNumbering number
    → InEach (λ s past. IsRealTimeRun (textbook number past) (serial_history (textbook number past) (commit_order past)))

-- it is strictly serializable: serializable in real time
abbrev pub AreStrictlySerializable : Type 0
AreStrictlySerializable = OfEachTextbook IsStrictlySerializable

-- This serial history is view equivalent to its committed projection: each read reads from the same write, and the
-- final writes are the same.
abbrev pub CommitOrdersReadAlike : Type 0
CommitOrdersReadAlike = (number : Key → ℕ) → IsNumbering number
    → InEach (λ s past. AreViewEquivalent (committed_projection (textbook number past))
    (serial_history (textbook number past) (commit_order past)))

-- there is a numbering of all keys
abbrev pub KeysCanBeNumbered : Type 0
KeysCanBeNumbered = (number : Key → ℕ) × IsNumbering number

-- the textbook's history of some legal one does not avoid cascading aborts, and so is not strict
abbrev pub SomeCascade : Type 0
SomeCascade =
    (s : Configuration) × (past : List Entry) × Legal s past × ((number : Key → ℕ) → ¬ AvoidsCascadingAborts (textbook number past))
