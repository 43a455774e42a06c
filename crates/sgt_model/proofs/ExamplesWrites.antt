-- Worked examples of writes: after a read, by two that read, past an aborted one, and over an aborted one.
use Rattle.std.specs.Prelude.{◌≡◌, pos, List, [], ◌∷◌, Some, refl}
use Rattle.std.proofs.Common.{inl, inr}
use Rattle.sgt_model.specs.declared.event.Event.TheVariants.{Start, Step, Commit, Quit}
use Rattle.sgt_model.specs.declared.reply.Reply.TheVariants as reply
use Rattle.sgt_model.specs.declared.reply.Cause.TheVariants as cause
use Rattle.sgt_model.specs.declared.entry.Entry.{Entry}
use Rattle.sgt_model.specs.Values.{settled}
use Rattle.sgt_model.specs.Legality.{Legal}
use Rattle.sgt_model.proofs.Computed.{◌▸◌, made_by, aborts_by, refused_by, commits_by, waits_by}
use Rattle.sgt_model.proofs.ExampleConfigurations.{small_bank, entry, small_bank_put}

-- 0 has made all its accesses
abbrev pub at_its_end : List Entry
at_its_end =
    entry (Step 0) (reply.Looked (2, pos 101) (Some (pos 1000)))
    ∷ entry (Step 0) (reply.Looked (1, pos 101) (Some (pos 500)))
    ∷ entry (Step 0) (reply.Looked (0, pos 1) (Some (pos 101)))
    ∷ entry (Start 0 (pos 1 ∷ [])) (reply.Started 0)
    ∷ []

-- 1 has written a record that 0 has read before; 0 is live, and at its end
abbrev pub early_writer : List Entry
early_writer =
    entry (Step 1) (reply.Wrote (2, pos 101) (Some (pos 1050)))
    ∷ entry (Step 1) (reply.Looked (2, pos 101) (Some (pos 1000)))
    ∷ entry (Step 1) (reply.Looked (0, pos 1) (Some (pos 101)))
    ∷ entry (Start 1 (pos 1 ∷ pos 50 ∷ [])) (reply.Started 1)
    ∷ entry (Step 0) (reply.Ended)
    ∷ at_its_end

-- the transaction that read first commits first
abbrev pub reader_before_writer : List Entry
reader_before_writer =
    entry (Commit 1) (reply.Committed (pos 1050 ∷ []))
    ∷ entry (Commit 0) (reply.Committed (pos 1500 ∷ []))
    ∷ entry (Commit 1) (reply.Waits 0)
    ∷ early_writer

reader_before_writer-legal : Legal (small_bank 8 100) reader_before_writer
reader_before_writer-legal =
    tt ▸ refl ▸ inr (made_by (0 ∷ []) refl) ▸ inr (made_by (0 ∷ []) refl) ▸ inr (made_by (0 ∷ []) refl) ▸ refl ▸ refl
    ▸ inr (made_by (1 ∷ []) refl) ▸ inr (made_by (1 ∷ []) refl) ▸ inr (made_by (1 ∷ []) refl) ▸ inl (waits_by refl)
    ▸ inr (commits_by refl) ▸ inr (commits_by refl)

reader_before_writer-checking : settled (small_bank 8 100).opening reader_before_writer (2, pos 101) ≡ Some (pos 1050)
reader_before_writer-checking = refl

-- of two that read a record, the second to write would close a cycle
abbrev pub lost_update : List Entry
lost_update =
    entry (Commit 0) (reply.Committed (pos 900 ∷ []))
    ∷ entry (Step 1) (reply.Aborted (cause.Cycle (1 ∷ 0 ∷ [])) ([]))
    ∷ entry (Step 0) (reply.Wrote (2, pos 101) (Some (pos 900)))
    ∷ entry (Step 1) (reply.Looked (2, pos 101) (Some (pos 1000)))
    ∷ entry (Step 1) (reply.Looked (1, pos 101) (Some (pos 500)))
    ∷ entry (Step 1) (reply.Looked (0, pos 1) (Some (pos 101)))
    ∷ entry (Step 0) (reply.Looked (2, pos 101) (Some (pos 1000)))
    ∷ entry (Step 0) (reply.Looked (1, pos 101) (Some (pos 500)))
    ∷ entry (Step 0) (reply.Looked (0, pos 1) (Some (pos 101)))
    ∷ entry (Start 4 (pos 1 ∷ pos 100 ∷ [])) (reply.Started 1)
    ∷ entry (Start 4 (pos 1 ∷ pos 100 ∷ [])) (reply.Started 0)
    ∷ []

lost_update-legal : Legal (small_bank 8 100) lost_update
lost_update-legal =
    tt ▸ refl ▸ refl ▸ inr (made_by (0 ∷ []) refl) ▸ inr (made_by (0 ∷ []) refl) ▸ inr (made_by (0 ∷ []) refl)
    ▸ inr (made_by (1 ∷ []) refl) ▸ inr (made_by (1 ∷ []) refl) ▸ inr (made_by (1 ∷ []) refl)
    ▸ inr (made_by (0 ∷ []) refl) ▸ inl (refused_by (0 ∷ []) ([]) ([]) (1 ∷ []) refl refl refl refl)
    ▸ inr (commits_by refl)

lost_update-checking : settled (small_bank 8 100).opening lost_update (2, pos 101) ≡ Some (pos 900)
lost_update-checking = refl

-- three have written a record, and the second was aborted
abbrev pub three_writers : List Entry
three_writers =
    entry (Quit 1) (reply.Aborted cause.Quit ([]))
    ∷ entry (Step 2) (reply.Wrote (3, pos 7) (Some (pos 3)))
    ∷ entry (Step 1) (reply.Wrote (3, pos 7) (Some (pos 2)))
    ∷ entry (Step 0) (reply.Wrote (3, pos 7) (Some (pos 1)))
    ∷ entry (Start 5 (pos 3 ∷ [])) (reply.Started 2)
    ∷ entry (Start 5 (pos 2 ∷ [])) (reply.Started 1)
    ∷ entry (Start 5 (pos 1 ∷ [])) (reply.Started 0)
    ∷ []

-- an edge holds past an aborted write in between
abbrev pub pair_past_aborted : List Entry
pair_past_aborted =
    entry (Commit 2) (reply.Committed ([]))
    ∷ entry (Commit 0) (reply.Committed ([]))
    ∷ entry (Commit 2) (reply.Waits 0)
    ∷ three_writers

pair_past_aborted-legal : Legal small_bank_put pair_past_aborted
pair_past_aborted-legal =
    tt ▸ refl ▸ refl ▸ refl ▸ inr (made_by (0 ∷ []) refl) ▸ inr (made_by (1 ∷ []) refl) ▸ inr (made_by (2 ∷ []) refl)
    ▸ aborts_by ([]) ([]) (1 ∷ []) refl refl refl ▸ inl (waits_by refl) ▸ inr (commits_by refl)
    ▸ inr (commits_by refl)

pair_past_aborted-record : settled small_bank_put.opening pair_past_aborted (3, pos 7) ≡ Some (pos 3)
pair_past_aborted-record = refl

-- 1 has written over a value of 0
abbrev pub overwritten : List Entry
overwritten =
    entry (Step 1) (reply.Wrote (3, pos 7) (Some (pos 2)))
    ∷ entry (Step 0) (reply.Wrote (3, pos 7) (Some (pos 1)))
    ∷ entry (Start 5 (pos 2 ∷ [])) (reply.Started 1)
    ∷ entry (Start 5 (pos 1 ∷ [])) (reply.Started 0)
    ∷ []

-- an abort removes its own value alone
abbrev pub undo_beneath_overwriter : List Entry
undo_beneath_overwriter =
    entry (Commit 1) (reply.Committed ([]))
    ∷ entry (Quit 0) (reply.Aborted cause.Quit ([]))
    ∷ overwritten

undo_beneath_overwriter-legal : Legal small_bank_put undo_beneath_overwriter
undo_beneath_overwriter-legal =
    tt ▸ refl ▸ refl ▸ inr (made_by (0 ∷ []) refl) ▸ inr (made_by (1 ∷ []) refl)
    ▸ aborts_by ([]) ([]) (0 ∷ []) refl refl refl ▸ inr (commits_by refl)

undo_beneath_overwriter-record : settled small_bank_put.opening undo_beneath_overwriter (3, pos 7) ≡ Some (pos 2)
undo_beneath_overwriter-record = refl

-- 2 has written over values of 1 and of 0, and both are live
abbrev pub two_live_writers : List Entry
two_live_writers =
    entry (Step 2) (reply.Wrote (3, pos 7) (Some (pos 3)))
    ∷ entry (Step 0) (reply.Wrote (3, pos 7) (Some (pos 1)))
    ∷ entry (Step 1) (reply.Wrote (3, pos 7) (Some (pos 2)))
    ∷ entry (Start 5 (pos 3 ∷ [])) (reply.Started 2)
    ∷ entry (Start 5 (pos 2 ∷ [])) (reply.Started 1)
    ∷ entry (Start 5 (pos 1 ∷ [])) (reply.Started 0)
    ∷ []

-- of two live predecessors the one with the smaller number is named, and so after an abort
abbrev pub waits_for_the_least : List Entry
waits_for_the_least =
    entry (Commit 2) (reply.Committed ([]))
    ∷ entry (Commit 1) (reply.Committed ([]))
    ∷ entry (Commit 2) (reply.Waits 1)
    ∷ entry (Quit 0) (reply.Aborted cause.Quit ([]))
    ∷ entry (Commit 0) (reply.Waits 1)
    ∷ entry (Commit 2) (reply.Waits 0)
    ∷ two_live_writers

waits_for_the_least-legal : Legal small_bank_put waits_for_the_least
waits_for_the_least-legal =
    tt ▸ refl ▸ refl ▸ refl ▸ inr (made_by (1 ∷ []) refl) ▸ inr (made_by (0 ∷ []) refl) ▸ inr (made_by (2 ∷ []) refl)
    ▸ inl (waits_by refl) ▸ inl (waits_by refl) ▸ aborts_by ([]) ([]) (0 ∷ []) refl refl refl ▸ inl (waits_by refl)
    ▸ inr (commits_by refl) ▸ inr (commits_by refl)

waits_for_the_least-record : settled small_bank_put.opening waits_for_the_least (3, pos 7) ≡ Some (pos 3)
waits_for_the_least-record = refl
