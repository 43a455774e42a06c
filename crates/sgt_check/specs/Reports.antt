-- What a report says of a history.
use Rattle.std.specs.Prelude.{◌≡◌, ◌+◌, ◌↔◌, ℕ, Bool, true, false, ◌==◌, ◌||◌, if◌then◌else◌, List, [], ◌∷◌, ◌++◌, Option, Some, None, count_by}
use Rattle.sgt_classes.specs.declared.operation.Operation.{Operation}
use Rattle.sgt_classes.specs.declared.operation.Violation.{Violation}
use Rattle.sgt_classes.specs.declared.operation.Action.{Action}
use Rattle.sgt_classes.specs.declared.operation.Action.TheVariants.{Read, Write, Commit, Abort}
use Rattle.sgt_classes.specs.Histories.{Does, IsWellFormed}
use Rattle.sgt_classes.specs.Classes.{ReadsFrom, BreaksStrictness, BreaksAvoidance, BreaksRecoverability, BreaksRigorousness, IsFirstViolation}
use Rattle.sgt_classes.specs.Serializability.{BreaksCommitOrder, IsAcyclic}
use Rattle.sgt_classes.specs.Equivalence.{IsSerializable}
use Rattle.sgt_classes.specs.SerialOrders.{IsShown, IsSerial}
use Rattle.sgt_check.specs.declared.report.Counts.{Counts}
use Rattle.sgt_check.specs.declared.report.Report.{Report}

-- whether one of the operations is the transaction's
abbrev pub acts : List Operation → ℕ → Bool
acts [] t = false
acts (op ∷ ops) t = op.transaction == t || acts ops t

-- how many of these operations are the first of their transactions, after those before
abbrev pub count_firsts : List Operation → List Operation → ℕ
count_firsts before [] = 0
count_firsts before (op ∷ ops) = (if acts before op.transaction then 0 else 1) + count_firsts (before ++ op ∷ []) ops

-- whether it is a commit
abbrev pub commits : Action → Bool
commits Commit = true
commits Abort = false
commits (Read x) = false
commits (Write x) = false

-- whether it is an abort
abbrev pub aborts : Action → Bool
aborts Commit = false
aborts Abort = true
aborts (Read x) = false
aborts (Write x) = false

-- the counts of a history
pub record AreCounts (h : List Operation) (c : Counts) : Type 0 where
  pub transactions : c.transactions ≡ count_firsts [] h
  pub committed : c.committed ≡ count_by (λ op. commits op.action) h
  pub aborted : c.aborted ≡ count_by (λ op. aborts op.action) h

-- the position of the write that the read of a violation reads from; none if there is no violation
abbrev pub IsWriteOf : List Operation → Option Violation → Option ℕ → Type 0
IsWriteOf h None write = write ≡ None
IsWriteOf h (Some v) None = ⊥
IsWriteOf h (Some v) (Some write) =
    (item : ℕ) × (writer : ℕ) × (reader : ℕ) × ReadsFrom h write v.earlier item writer reader × Does h v.later reader Commit

-- the position of the abort of the transaction that acts at a position; none if that does not abort
abbrev pub IsAbortOf : List Operation → Option ℕ → Option ℕ → Type 0
IsAbortOf h None abort = abort ≡ None
IsAbortOf h (Some place) None = (t i : ℕ) (action : Action) → Does h place t action → ¬ Does h i t Abort
IsAbortOf h (Some place) (Some i) = (t : ℕ) × (action : Action) × Does h place t action × Does h i t Abort

-- what is reported of a history: the first violation of each class, or none if the history belongs to the class
pub record IsReport (h : List Operation) (r : Report) : Type 0 where
  pub counts : AreCounts h r.counts
  pub acyclic : IsSerial r.serializability ↔ IsAcyclic h
  pub serializable : IsWellFormed h → IsSerial r.serializability ↔ IsSerializable h
  pub shown : IsShown h r.serializability
  pub recoverable : IsFirstViolation (BreaksRecoverability h) r.recoverable
  pub dirty_write : IsWriteOf h r.recoverable r.dirty_write
  pub dirty_abort : IsAbortOf h r.dirty_write r.dirty_abort
  pub avoiding : IsFirstViolation (BreaksAvoidance h) r.avoiding
  pub strict : IsFirstViolation (BreaksStrictness h) r.strict
  pub rigorous : IsFirstViolation (BreaksRigorousness h) r.rigorous
  pub commit_ordered : IsFirstViolation (BreaksCommitOrder h) r.commit_ordered
