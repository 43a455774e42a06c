-- Worked examples of reads: of uncommitted values, of the own value, also over another's, and of a value that changed between.
use Rattle.std.specs.Prelude.{◌≡◌, pos, List, [], ◌∷◌, Some, None, refl}
use Rattle.std.proofs.Common.{inl, inr}
use Rattle.sgt_model.specs.declared.event.Event.TheVariants.{Start, Step, Commit, Quit}
use Rattle.sgt_model.specs.declared.reply.Reply.TheVariants as reply
use Rattle.sgt_model.specs.declared.reply.Cause.TheVariants as cause
use Rattle.sgt_model.specs.declared.reply.Fate.TheVariants as fate
use Rattle.sgt_model.specs.declared.entry.Entry.{Entry}
use Rattle.sgt_model.specs.Values.{settled}
use Rattle.sgt_model.specs.Legality.{Legal}
use Rattle.sgt_model.proofs.Computed.{◌▸◌, made_by, aborts_by, refused_by, commits_by, waits_by}
use Rattle.sgt_model.proofs.ExampleConfigurations.{small_bank, entry, small_bank_look_twice, small_bank_put_and_read, small_bank_put_over, small_bank_read}

-- 0 has written a record and not committed. 1 has read two others
abbrev pub dirty_reader : List Entry
dirty_reader =
    entry (Step 1) (reply.Looked (1, pos 101) (Some (pos 500)))
    ∷ entry (Step 1) (reply.Looked (0, pos 1) (Some (pos 101)))
    ∷ entry (Start 0 (pos 1 ∷ [])) (reply.Started 1)
    ∷ entry (Step 0) (reply.Wrote (2, pos 101) (Some (pos 1100)))
    ∷ entry (Step 0) (reply.Looked (2, pos 101) (Some (pos 1000)))
    ∷ entry (Step 0) (reply.Looked (0, pos 1) (Some (pos 101)))
    ∷ entry (Start 1 (pos 1 ∷ pos 100 ∷ [])) (reply.Started 0)
    ∷ []

-- 1 reads three records. In the last it reads what 0 has written and not committed
abbrev pub dirty_read : List Entry
dirty_read =
    entry (Step 1) (reply.Looked (2, pos 101) (Some (pos 1100)))
    ∷ dirty_reader

dirty_read-legal : Legal (small_bank 8 100) dirty_read
dirty_read-legal =
    tt ▸ refl ▸ inr (made_by (0 ∷ []) refl) ▸ inr (made_by (0 ∷ []) refl) ▸ inr (made_by (0 ∷ []) refl) ▸ refl
    ▸ inr (made_by (1 ∷ []) refl) ▸ inr (made_by (1 ∷ []) refl) ▸ inr (made_by (1 ∷ []) refl)

-- a read returns what is not committed, and its transaction waits for the source
abbrev pub dirty_read_waits : List Entry
dirty_read_waits =
    entry (Commit 1) (reply.Committed (pos 1600 ∷ []))
    ∷ entry (Commit 0) (reply.Committed (pos 1100 ∷ []))
    ∷ entry (Commit 1) (reply.Waits 0)
    ∷ dirty_read

dirty_read_waits-legal : Legal (small_bank 8 100) dirty_read_waits
dirty_read_waits-legal = dirty_read-legal ▸ inl (waits_by refl) ▸ inr (commits_by refl) ▸ inr (commits_by refl)

dirty_read_waits-checking : settled (small_bank 8 100).opening dirty_read_waits (2, pos 101) ≡ Some (pos 1100)
dirty_read_waits-checking = refl

-- the reader is aborted in cascade with its source
abbrev pub quit_takes_reader : List Entry
quit_takes_reader =
    entry (Step 1) (reply.Over (fate.Fell 0))
    ∷ entry (Quit 0) (reply.Aborted cause.Quit (1 ∷ []))
    ∷ dirty_read

quit_takes_reader-legal : Legal (small_bank 8 100) quit_takes_reader
quit_takes_reader-legal = dirty_read-legal ▸ aborts_by (1 ∷ []) ((1 ∷ []) ∷ []) (0 ∷ 1 ∷ []) refl refl refl ▸ refl

quit_takes_reader-checking : settled (small_bank 8 100).opening quit_takes_reader (2, pos 101) ≡ Some (pos 1000)
quit_takes_reader-checking = refl

-- a read returns the own value
abbrev pub own_write_read_back : List Entry
own_write_read_back =
    entry (Commit 0) (reply.Committed (pos 4 ∷ []))
    ∷ entry (Step 0) (reply.Ended)
    ∷ entry (Step 0) (reply.Looked (3, pos 7) (Some (pos 4)))
    ∷ entry (Step 0) (reply.Wrote (3, pos 7) (Some (pos 4)))
    ∷ entry (Start 5 ([])) (reply.Started 0)
    ∷ []

own_write_read_back-legal : Legal small_bank_put_and_read own_write_read_back
own_write_read_back-legal =
    tt ▸ refl ▸ inr (made_by (0 ∷ []) refl) ▸ inr (made_by (0 ∷ []) refl) ▸ refl ▸ inr (commits_by refl)

own_write_read_back-record : settled small_bank_put_and_read.opening own_write_read_back (3, pos 7) ≡ Some (pos 4)
own_write_read_back-record = refl

-- 0 has read a record that 1 has written since
abbrev pub looked_before : List Entry
looked_before =
    entry (Step 1) (reply.Wrote (2, pos 101) (Some (pos 1001)))
    ∷ entry (Step 1) (reply.Looked (2, pos 101) (Some (pos 1000)))
    ∷ entry (Step 1) (reply.Looked (0, pos 1) (Some (pos 101)))
    ∷ entry (Start 1 (pos 1 ∷ pos 1 ∷ [])) (reply.Started 1)
    ∷ entry (Step 0) (reply.Looked (2, pos 101) (Some (pos 1000)))
    ∷ entry (Start 5 ([])) (reply.Started 0)
    ∷ []

-- a second read of what another wrote in between would close a cycle
abbrev pub repeated_read : List Entry
repeated_read =
    entry (Commit 1) (reply.Committed (pos 1001 ∷ []))
    ∷ entry (Step 0) (reply.Aborted (cause.Cycle (0 ∷ 1 ∷ [])) ([]))
    ∷ looked_before

repeated_read-legal : Legal small_bank_look_twice repeated_read
repeated_read-legal =
    tt ▸ refl ▸ inr (made_by (0 ∷ []) refl) ▸ refl ▸ inr (made_by (1 ∷ []) refl) ▸ inr (made_by (1 ∷ []) refl)
    ▸ inr (made_by (1 ∷ []) refl) ▸ inl (refused_by (1 ∷ []) ([]) ([]) (0 ∷ []) refl refl refl refl)
    ▸ inr (commits_by refl)

repeated_read-checking : settled small_bank_look_twice.opening repeated_read (2, pos 101) ≡ Some (pos 1001)
repeated_read-checking = refl

-- a read past an aborted write returns the one before, and is aborted in cascade with that one
abbrev pub read_past_aborted : List Entry
read_past_aborted =
    entry (Quit 0) (reply.Aborted cause.Quit (2 ∷ []))
    ∷ entry (Step 2) (reply.Looked (3, pos 7) (Some (pos 1)))
    ∷ entry (Quit 1) (reply.Aborted cause.Quit ([]))
    ∷ entry (Step 1) (reply.Wrote (3, pos 7) (Some (pos 2)))
    ∷ entry (Step 0) (reply.Wrote (3, pos 7) (Some (pos 1)))
    ∷ entry (Start 6 ([])) (reply.Started 2)
    ∷ entry (Start 5 (pos 2 ∷ [])) (reply.Started 1)
    ∷ entry (Start 5 (pos 1 ∷ [])) (reply.Started 0)
    ∷ []

read_past_aborted-legal : Legal small_bank_read read_past_aborted
read_past_aborted-legal =
    tt ▸ refl ▸ refl ▸ refl ▸ inr (made_by (0 ∷ []) refl) ▸ inr (made_by (1 ∷ []) refl)
    ▸ aborts_by ([]) ([]) (1 ∷ []) refl refl refl ▸ inr (made_by (2 ∷ []) refl)
    ▸ aborts_by (2 ∷ []) ((2 ∷ []) ∷ []) (0 ∷ 2 ∷ []) refl refl refl

read_past_aborted-record : settled small_bank_read.opening read_past_aborted (3, pos 7) ≡ None
read_past_aborted-record = refl

-- 1 has written over a value of 0, and has read its own value back
abbrev pub stored_over : List Entry
stored_over =
    entry (Step 1) (reply.Looked (3, pos 7) (Some (pos 4)))
    ∷ entry (Step 1) (reply.Wrote (3, pos 7) (Some (pos 4)))
    ∷ entry (Step 0) (reply.Wrote (3, pos 7) (Some (pos 1)))
    ∷ entry (Start 6 []) (reply.Started 1)
    ∷ entry (Start 5 (pos 1 ∷ [])) (reply.Started 0)
    ∷ []

-- a transaction that wrote over another's value before reading has read from none: it stays when the other is aborted
abbrev pub own_store_over_anothers : List Entry
own_store_over_anothers =
    entry (Commit 1) (reply.Committed (pos 4 ∷ []))
    ∷ entry (Quit 0) (reply.Aborted cause.Quit [])
    ∷ stored_over

own_store_over_anothers-legal : Legal small_bank_put_over own_store_over_anothers
own_store_over_anothers-legal =
    tt ▸ refl ▸ refl ▸ inr (made_by (0 ∷ []) refl) ▸ inr (made_by (1 ∷ []) refl) ▸ inr (made_by (1 ∷ []) refl)
    ▸ aborts_by [] [] (0 ∷ []) refl refl refl ▸ inr (commits_by refl)

own_store_over_anothers-record : settled small_bank_put_over.opening own_store_over_anothers (3, pos 7) ≡ Some (pos 4)
own_store_over_anothers-record = refl
