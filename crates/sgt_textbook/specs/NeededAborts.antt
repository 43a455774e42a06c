-- Which aborts are needed: rejections for serializability, cascading aborts for recoverability. Whether fewer transactions could be
-- aborted is another question: in place of the one whose access is rejected, another member of the cycle might abort.
use Rattle.std.specs.Prelude.{◌≡◌, ◌↔◌, ℕ, true, List, ◌∷◌, ◌++◌}
use Rattle.sgt_model.specs.declared.entry.Entry.{Entry}
use Rattle.sgt_model.specs.declared.event.Event.{Event}
use Rattle.sgt_model.specs.declared.reply.Reply.{Reply}
use Rattle.sgt_model.specs.declared.kind.Kind.{Kind}
use Rattle.sgt_model.specs.Contents.{Key}
use Rattle.sgt_model.specs.Paths.{Member}
use Rattle.sgt_model.specs.Accesses.{access_of}
use Rattle.sgt_model.specs.Fates.{live, live_ones}
use Rattle.sgt_model.specs.Falls.{Falls}
use Rattle.sgt_model.specs.Closes.{Closes}
use Rattle.sgt_model.specs.Aborts.{IsAccessBy}
use Rattle.sgt_model.specs.Laws.{InEach}
use Rattle.sgt_progress.specs.Needed.{is_rejection, AccessAt}
use Rattle.sgt_classes.specs.declared.operation.Operation.{Operation}
use Rattle.sgt_classes.specs.declared.operation.Action.TheVariants as action
use Rattle.sgt_classes.specs.Histories.{IsWellFormed}
use Rattle.sgt_classes.specs.Classes.{IsRecoverable}
use Rattle.sgt_classes.specs.Serializability.{Commits}
use Rattle.sgt_classes.specs.Equivalence.{Aborts, IsSerializable}
use Rattle.sgt_textbook.specs.Textbook.{IsNumbering, textbook, each_does}

-- An access that would close a cycle, made all the same: however the history goes on, by any operations, if all members of the
-- cycle commit, it is not serializable. So one of them had to be aborted.
abbrev pub RejectionsAreNeeded : Type 0
RejectionsAreNeeded = (number : Key → ℕ) (past : List Entry) (t : ℕ) (k : Key) (kind : Kind) (rest : List ℕ)
    → Closes past t k kind rest → (e : Entry) → IsAccessBy (access_of e) t k kind → (more : List Operation)
    → IsWellFormed (textbook number (e ∷ past) ++ more) → ((u : ℕ) → Member u (t ∷ rest) → Commits (textbook number (e ∷ past) ++ more) u)
    → ¬ IsSerializable (textbook number (e ∷ past) ++ more)

-- Of those that are aborted in cascade with t: however the history goes on, if t aborts and one of them commits, it is not
-- recoverable.
abbrev pub CascadesAreNeeded : Type 0
CascadesAreNeeded = (number : Key → ℕ) → IsNumbering number → InEach (λ s past. (t : ℕ) (fell : List ℕ) → Falls past t fell → (more : List Operation)
    → IsWellFormed (textbook number past ++ more) → Aborts (textbook number past ++ more) t → (u : ℕ) → Member u fell
    → Commits (textbook number past ++ more) u → ¬ IsRecoverable (textbook number past ++ more))

-- If live transactions of a legal history committed now, one after another in any order, it would be serializable. So no
-- transaction is live that would have to be aborted already.
abbrev pub LiveOnesMayCommit : Type 0
LiveOnesMayCommit = (number : Key → ℕ) → IsNumbering number → InEach (λ s past. (ones : List ℕ) → ((u : ℕ) → Member u ones → live past u ≡ true)
    → IsSerializable (textbook number past ++ each_does action.Commit ones))

-- An access, of a procedure or one on which a caller decided, is rejected exactly if the history with it, all live transactions
-- committing then, would not be serializable.
abbrev pub RejectsExactly : Type 0
RejectsExactly = (number : Key → ℕ) → IsNumbering number → InEach (λ s past. (event : Event) (t : ℕ) (k : Key) (kind : Kind) (r : Reply) (e : Entry)
    → AccessAt s past event t k kind r e
    → (is_rejection r ≡ true) ↔ (¬ IsSerializable (textbook number (e ∷ past) ++ each_does action.Commit (live_ones past))))

-- The cycles that rejections name are of live transactions alone.
abbrev pub CyclesAreLive : Type 0
CyclesAreLive = InEach (λ s past. (t : ℕ) → live past t ≡ true → (k : Key) (kind : Kind) (rest : List ℕ) → Closes past t k kind rest
    → (u : ℕ) → Member u (t ∷ rest) → live past u ≡ true)
