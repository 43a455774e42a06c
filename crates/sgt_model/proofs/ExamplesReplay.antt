-- A worked example of the replay: the committed transactions run again, one after another, and nothing else does.
use Rattle.std.specs.Prelude.{◌≡◌, pos, List, [], ◌∷◌, Some, refl}
use Rattle.std.proofs.Common.{inl, inr}
use Rattle.sgt_model.specs.declared.event.Event.TheVariants.{Start, Step, Commit, Quit}
use Rattle.sgt_model.specs.declared.reply.Reply.TheVariants as reply
use Rattle.sgt_model.specs.declared.reply.Cause.TheVariants as cause
use Rattle.sgt_model.specs.declared.entry.Entry.{Entry}
use Rattle.sgt_model.specs.Values.{settled}
use Rattle.sgt_model.specs.Legality.{Legal}
use Rattle.sgt_model.specs.Progress.{Call}
use Rattle.sgt_model.specs.Replay.{GaveAnswers, reported_calls, folded, reported}
use Rattle.sgt_model.proofs.Computed.{◌▸◌, made_by, aborts_by, commits_by, waits_by}
use Rattle.sgt_model.proofs.ExampleConfigurations.{small_bank, entry}

-- two deposits commit; a check is written between them, and aborted
abbrev pub two_deposits : List Entry
two_deposits =
    entry (Commit 2) (reply.Committed (pos 1150 ∷ []))
    ∷ entry (Commit 0) (reply.Committed (pos 1100 ∷ []))
    ∷ entry (Commit 2) (reply.Waits 0)
    ∷ entry (Step 2) (reply.Wrote (2, pos 101) (Some (pos 1150)))
    ∷ entry (Step 2) (reply.Looked (2, pos 101) (Some (pos 1100)))
    ∷ entry (Quit 1) (reply.Aborted cause.Quit [])
    ∷ entry (Step 1) (reply.Wrote (2, pos 101) (Some (pos 1070)))
    ∷ entry (Step 1) (reply.Looked (2, pos 101) (Some (pos 1100)))
    ∷ entry (Step 1) (reply.Looked (1, pos 101) (Some (pos 500)))
    ∷ entry (Step 1) (reply.Looked (0, pos 1) (Some (pos 101)))
    ∷ entry (Step 0) (reply.Wrote (2, pos 101) (Some (pos 1100)))
    ∷ entry (Step 0) (reply.Looked (2, pos 101) (Some (pos 1000)))
    ∷ entry (Step 0) (reply.Looked (0, pos 1) (Some (pos 101)))
    ∷ entry (Step 2) (reply.Looked (0, pos 1) (Some (pos 101)))
    ∷ entry (Start 1 (pos 1 ∷ pos 50 ∷ [])) (reply.Started 2)
    ∷ entry (Start 4 (pos 1 ∷ pos 30 ∷ [])) (reply.Started 1)
    ∷ entry (Start 1 (pos 1 ∷ pos 100 ∷ [])) (reply.Started 0)
    ∷ []

two_deposits-legal : Legal (small_bank 8 100) two_deposits
two_deposits-legal =
    tt ▸ refl ▸ refl ▸ refl ▸ inr (made_by (2 ∷ []) refl) ▸ inr (made_by (0 ∷ []) refl) ▸ inr (made_by (0 ∷ []) refl)
    ▸ inr (made_by (0 ∷ []) refl) ▸ inr (made_by (1 ∷ []) refl) ▸ inr (made_by (1 ∷ []) refl)
    ▸ inr (made_by (1 ∷ []) refl) ▸ inr (made_by (1 ∷ []) refl) ▸ aborts_by [] [] (1 ∷ []) refl refl refl
    ▸ inr (made_by (2 ∷ []) refl) ▸ inr (made_by (2 ∷ []) refl) ▸ inl (waits_by refl) ▸ inr (commits_by refl)
    ▸ inr (commits_by refl)

-- the check is none of the committed calls; of the deposits, the one that committed last comes first
abbrev pub the_deposits : List Call
the_deposits =
    record { procedure = 1; args = pos 1 ∷ pos 50 ∷ []; caller_accesses = [] }
    ∷ record { procedure = 1; args = pos 1 ∷ pos 100 ∷ []; caller_accesses = [] }
    ∷ []

two_deposits-committed : reported_calls two_deposits ≡ the_deposits
two_deposits-committed = refl

-- run one after another, they give these answers
two_deposits-results : (folded (small_bank 8 100) two_deposits).results ≡ GaveAnswers (pos 1150 ∷ []) ∷ GaveAnswers (pos 1100 ∷ []) ∷ []
two_deposits-results = refl

-- and these are the answers that were reported
two_deposits-reported : reported two_deposits ≡ GaveAnswers (pos 1150 ∷ []) ∷ GaveAnswers (pos 1100 ∷ []) ∷ []
two_deposits-reported = refl

-- the balance at the end is the committed one
two_deposits-folded : (folded (small_bank 8 100) two_deposits).last (2, pos 101) ≡ Some (pos 1150)
two_deposits-folded = refl

two_deposits-settled : settled (small_bank 8 100).opening two_deposits (2, pos 101) ≡ Some (pos 1150)
two_deposits-settled = refl

-- no other record changed
two_deposits-saving : (folded (small_bank 8 100) two_deposits).last (1, pos 101)
    ≡ settled (small_bank 8 100).opening two_deposits (1, pos 101)
two_deposits-saving = refl
