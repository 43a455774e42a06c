-- Worked examples of the statement `remove`: what its procedure reads after it, what another reads of it, and what is left when it
-- is undone.
use Rattle.std.specs.Prelude.{◌≡◌, pos, List, [], ◌∷◌, Some, None, refl}
use Rattle.std.proofs.Common.{inl, inr}
use Rattle.sgt_model.specs.declared.event.Event.TheVariants.{Start, Step, Commit, Quit}
use Rattle.sgt_model.specs.declared.reply.Reply.TheVariants as reply
use Rattle.sgt_model.specs.declared.reply.Cause.TheVariants as cause
use Rattle.sgt_model.specs.declared.entry.Entry.{Entry}
use Rattle.sgt_model.specs.Contents.{set_in}
use Rattle.sgt_model.specs.Syntax as text
use Rattle.sgt_model.specs.Syntax.{ProcedureText, num, reg}
use Rattle.sgt_model.specs.Runs.{Done, Asked, serial}
use Rattle.sgt_model.specs.Traces.{put, look, ended, trace}
use Rattle.sgt_model.specs.Meaning.{run_with}
use Rattle.sgt_model.specs.Executions.{execution}
use Rattle.sgt_model.specs.Configurations.{Configuration}
use Rattle.sgt_model.specs.Values.{settled}
use Rattle.sgt_model.specs.Legality.{Legal}
use Rattle.sgt_model.specs.Replay.{GaveAnswers, folded}
use Rattle.sgt_model.proofs.Computed.{◌▸◌, made_by, aborts_by, commits_by, waits_by}
use Rattle.sgt_model.proofs.ExampleConfigurations.{small_bank_with, opening, entry}

-- remove a checking, and answer what is found after that, or 7
abbrev pub remove_and_find : ProcedureText
remove_and_find = record {
  args = 0;
  body = text.remove 2 (num (pos 101)) (text.find 0 2 (num (pos 101)) (num (pos 7)) (text.answer (reg 0) text.empty));
}

-- a procedure sees its own removal: `find` gives its value
remove_and_find-trace : trace (run_with remove_and_find []) (None ∷ [])
    ≡ record { accesses = put (2, pos 101) None ∷ look (2, pos 101) ∷ []; ending = ended (pos 7 ∷ []) }
remove_and_find-trace = refl

remove_and_find-serial : serial (run_with remove_and_find []) opening ≡ Done (pos 7 ∷ []) (set_in opening (2, pos 101) None)
remove_and_find-serial = refl

remove_and_find-execution : execution remove_and_find [] opening ≡ Done (pos 7 ∷ []) (set_in opening (2, pos 101) None)
remove_and_find-execution = refl

-- and `look` raises its code
abbrev pub remove_and_look : ProcedureText
remove_and_look = record { args = 0; body = text.remove 2 (num (pos 101)) (text.look 0 2 (num (pos 101)) 6 text.empty) }

remove_and_look-execution : execution remove_and_look [] opening ≡ Asked 6
remove_and_look-execution = refl

-- a removal of what is absent is an access like any other
abbrev pub remove_absent : ProcedureText
remove_absent = record { args = 0; body = text.remove 3 (num (pos 8)) text.empty }

remove_absent-trace : trace (run_with remove_absent []) [] ≡ record { accesses = put (3, pos 8) None ∷ []; ending = ended [] }
remove_absent-trace = refl

-- in histories: 5 removes a checking, and 6 answers it, or 7 if there is none
abbrev pub drop_it : ProcedureText
drop_it = record { args = 0; body = text.remove 2 (num (pos 101)) text.empty }

abbrev pub read_it : ProcedureText
read_it = record { args = 0; body = text.find 0 2 (num (pos 101)) (num (pos 7)) (text.answer (reg 0) text.empty) }

abbrev pub small_bank_remove : Configuration
small_bank_remove = small_bank_with opening (drop_it ∷ read_it ∷ [])

-- 1 reads what 0 has removed and not committed
abbrev pub dirty_absence : List Entry
dirty_absence =
    entry (Step 1) (reply.Looked (2, pos 101) None)
    ∷ entry (Step 0) (reply.Wrote (2, pos 101) None)
    ∷ entry (Start 6 []) (reply.Started 1)
    ∷ entry (Start 5 []) (reply.Started 0)
    ∷ []

dirty_absence-legal : Legal small_bank_remove dirty_absence
dirty_absence-legal = tt ▸ refl ▸ refl ▸ inr (made_by (0 ∷ []) refl) ▸ inr (made_by (1 ∷ []) refl)

-- so it waits for 0, and answers 7
abbrev pub absence_commits : List Entry
absence_commits =
    entry (Commit 1) (reply.Committed (pos 7 ∷ []))
    ∷ entry (Commit 0) (reply.Committed [])
    ∷ entry (Commit 1) (reply.Waits 0)
    ∷ dirty_absence

absence_commits-legal : Legal small_bank_remove absence_commits
absence_commits-legal = dirty_absence-legal ▸ inl (waits_by refl) ▸ inr (commits_by refl) ▸ inr (commits_by refl)

absence_commits-results : (folded small_bank_remove absence_commits).results ≡ GaveAnswers (pos 7 ∷ []) ∷ GaveAnswers [] ∷ []
absence_commits-results = refl

absence_commits-settled : settled opening absence_commits (2, pos 101) ≡ None
absence_commits-settled = refl

-- if the removal is undone, its reader is aborted in cascade, and the record is there
abbrev pub absence_undone : List Entry
absence_undone =
    entry (Quit 0) (reply.Aborted cause.Quit (1 ∷ []))
    ∷ dirty_absence

absence_undone-legal : Legal small_bank_remove absence_undone
absence_undone-legal = dirty_absence-legal ▸ aborts_by (1 ∷ []) ((1 ∷ []) ∷ []) (0 ∷ 1 ∷ []) refl refl refl

absence_undone-settled : settled opening absence_undone (2, pos 101) ≡ Some (pos 1000)
absence_undone-settled = refl
