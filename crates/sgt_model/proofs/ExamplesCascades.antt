-- Worked examples of aborts: over two levels, by cycles of three and of two, by one of several cycles, and by a code.
use Rattle.std.specs.Prelude.{◌≡◌, pos, List, [], ◌∷◌, Some, None, refl}
use Rattle.std.proofs.Common.{inl, inr}
use Rattle.sgt_model.specs.declared.event.Event.TheVariants.{Start, Step, Commit, Quit}
use Rattle.sgt_model.specs.declared.reply.Reply.TheVariants as reply
use Rattle.sgt_model.specs.declared.reply.Cause.TheVariants as cause
use Rattle.sgt_model.specs.declared.reply.Fate.TheVariants as fate
use Rattle.sgt_model.specs.declared.entry.Entry.{Entry}
use Rattle.sgt_model.specs.Values.{settled}
use Rattle.sgt_model.specs.Legality.{Legal, LegalReply}
use Rattle.sgt_model.proofs.Computed.{◌▸◌, made_by, aborts_by, refused_by, commits_by, waits_by}
use Rattle.sgt_model.proofs.ExampleConfigurations.{small_bank, entry, small_bank_copy, small_bank_twice}

-- 1 has read from 0, and 2 from 1
abbrev pub two_levels : List Entry
two_levels =
    entry (Step 2) (reply.Looked (2, pos 102) (Some (pos 1710)))
    ∷ entry (Step 2) (reply.Looked (1, pos 102) (Some (pos 0)))
    ∷ entry (Step 2) (reply.Looked (0, pos 2) (Some (pos 102)))
    ∷ entry (Start 0 (pos 2 ∷ [])) (reply.Started 2)
    ∷ entry (Step 1) (reply.Wrote (2, pos 102) (Some (pos 1710)))
    ∷ entry (Step 1) (reply.Looked (2, pos 102) (Some (pos 200)))
    ∷ entry (Step 1) (reply.Wrote (2, pos 101) (Some (pos 0)))
    ∷ entry (Step 1) (reply.Wrote (1, pos 101) (Some (pos 0)))
    ∷ entry (Step 1) (reply.Looked (2, pos 101) (Some (pos 1010)))
    ∷ entry (Step 1) (reply.Looked (1, pos 101) (Some (pos 500)))
    ∷ entry (Step 1) (reply.Looked (0, pos 2) (Some (pos 102)))
    ∷ entry (Step 1) (reply.Looked (0, pos 1) (Some (pos 101)))
    ∷ entry (Start 3 (pos 1 ∷ pos 2 ∷ [])) (reply.Started 1)
    ∷ entry (Step 0) (reply.Wrote (2, pos 101) (Some (pos 1010)))
    ∷ entry (Step 0) (reply.Looked (2, pos 101) (Some (pos 1000)))
    ∷ entry (Step 0) (reply.Looked (0, pos 1) (Some (pos 101)))
    ∷ entry (Start 1 (pos 1 ∷ pos 10 ∷ [])) (reply.Started 0)
    ∷ []

-- a reader of a reader is aborted in cascade too
abbrev pub two_level_cascade : List Entry
two_level_cascade =
    entry (Quit 1) (reply.Over (fate.Fell 0))
    ∷ entry (Step 2) (reply.Over (fate.Fell 0))
    ∷ entry (Quit 0) (reply.Aborted cause.Quit (1 ∷ 2 ∷ []))
    ∷ two_levels

two_level_cascade-legal : Legal (small_bank 8 100) two_level_cascade
two_level_cascade-legal =
    tt ▸ refl ▸ inr (made_by (0 ∷ []) refl) ▸ inr (made_by (0 ∷ []) refl) ▸ inr (made_by (0 ∷ []) refl) ▸ refl
    ▸ inr (made_by (1 ∷ []) refl) ▸ inr (made_by (1 ∷ []) refl) ▸ inr (made_by (1 ∷ []) refl)
    ▸ inr (made_by (1 ∷ []) refl) ▸ inr (made_by (1 ∷ []) refl) ▸ inr (made_by (1 ∷ []) refl)
    ▸ inr (made_by (1 ∷ []) refl) ▸ inr (made_by (1 ∷ []) refl) ▸ refl ▸ inr (made_by (2 ∷ []) refl)
    ▸ inr (made_by (2 ∷ []) refl) ▸ inr (made_by (2 ∷ []) refl)
    ▸ aborts_by (1 ∷ 2 ∷ []) ((1 ∷ []) ∷ (1 ∷ 2 ∷ []) ∷ []) (0 ∷ 1 ∷ 2 ∷ []) refl refl refl ▸ refl ▸ refl

two_level_cascade-checking : settled (small_bank 8 100).opening two_level_cascade (2, pos 101) ≡ Some (pos 1000)
two_level_cascade-checking = refl

-- each of three has read a record. 0 and 1 have written what 1 and 2 have read
abbrev pub ring : List Entry
ring =
    entry (Step 1) (reply.Wrote (2, pos 103) (Some (pos 200)))
    ∷ entry (Step 0) (reply.Wrote (2, pos 102) (Some (pos 1000)))
    ∷ entry (Step 2) (reply.Looked (2, pos 103) (Some (pos 300)))
    ∷ entry (Step 1) (reply.Looked (2, pos 102) (Some (pos 200)))
    ∷ entry (Step 0) (reply.Looked (2, pos 101) (Some (pos 1000)))
    ∷ entry (Start 5 (pos 103 ∷ pos 101 ∷ [])) (reply.Started 2)
    ∷ entry (Start 5 (pos 102 ∷ pos 103 ∷ [])) (reply.Started 1)
    ∷ entry (Start 5 (pos 101 ∷ pos 102 ∷ [])) (reply.Started 0)
    ∷ []

-- three that read each other's records in a ring: the last to write would close a cycle
abbrev pub ring_of_three : List Entry
ring_of_three =
    entry (Commit 0) (reply.Committed ([]))
    ∷ entry (Commit 1) (reply.Committed ([]))
    ∷ entry (Commit 0) (reply.Waits 1)
    ∷ entry (Step 2) (reply.Aborted (cause.Cycle (2 ∷ 1 ∷ 0 ∷ [])) ([]))
    ∷ ring

ring_of_three-legal : Legal small_bank_copy ring_of_three
ring_of_three-legal =
    tt ▸ refl ▸ refl ▸ refl ▸ inr (made_by (0 ∷ []) refl) ▸ inr (made_by (1 ∷ []) refl) ▸ inr (made_by (2 ∷ []) refl)
    ▸ inr (made_by (0 ∷ []) refl) ▸ inr (made_by (1 ∷ 0 ∷ []) refl)
    ▸ inl (refused_by (1 ∷ 0 ∷ []) ([]) ([]) (2 ∷ []) refl refl refl refl) ▸ inl (waits_by refl)
    ▸ inr (commits_by refl) ▸ inr (commits_by refl)

ring_of_three-first : settled small_bank_copy.opening ring_of_three (2, pos 101) ≡ Some (pos 1000)
ring_of_three-first = refl

ring_of_three-second : settled small_bank_copy.opening ring_of_three (2, pos 102) ≡ Some (pos 1000)
ring_of_three-second = refl

ring_of_three-third : settled small_bank_copy.opening ring_of_three (2, pos 103) ≡ Some (pos 200)
ring_of_three-third = refl

-- a write over what another has read would close a cycle, and the reader is aborted in cascade
abbrev pub cycle_and_cascade : List Entry
cycle_and_cascade =
    entry (Step 0) (reply.Over (fate.Aborted (cause.Cycle (0 ∷ 1 ∷ []))))
    ∷ entry (Step 1) (reply.Over (fate.Fell 0))
    ∷ entry (Step 0) (reply.Aborted (cause.Cycle (0 ∷ 1 ∷ [])) (1 ∷ []))
    ∷ entry (Step 1) (reply.Looked (3, pos 7) (Some (pos 1)))
    ∷ entry (Step 0) (reply.Wrote (3, pos 7) (Some (pos 1)))
    ∷ entry (Start 6 ([])) (reply.Started 1)
    ∷ entry (Start 5 ([])) (reply.Started 0)
    ∷ []

cycle_and_cascade-legal : Legal small_bank_twice cycle_and_cascade
cycle_and_cascade-legal =
    tt ▸ refl ▸ refl ▸ inr (made_by (0 ∷ []) refl) ▸ inr (made_by (1 ∷ []) refl)
    ▸ inl (refused_by (1 ∷ []) (1 ∷ []) ((1 ∷ []) ∷ []) (0 ∷ 1 ∷ []) refl refl refl refl) ▸ refl ▸ refl

cycle_and_cascade-record : settled small_bank_twice.opening cycle_and_cascade (3, pos 7) ≡ None
cycle_and_cascade-record = refl

-- a procedure raises a code if a read finds no record
abbrev pub asked : List Entry
asked =
    entry (Commit 0) (reply.Over (fate.Aborted (cause.Asked 1)))
    ∷ entry (Step 0) (reply.Aborted (cause.Asked 1) ([]))
    ∷ entry (Step 0) (reply.Looked (0, pos 9) None)
    ∷ entry (Start 0 (pos 9 ∷ [])) (reply.Started 0)
    ∷ []

asked-legal : Legal (small_bank 8 100) asked
asked-legal =
    tt ▸ refl ▸ inr (made_by (0 ∷ []) refl) ▸ aborts_by ([]) ([]) (0 ∷ []) refl refl refl ▸ refl

-- a transaction that is to raise a code cannot commit, and can be aborted
abbrev pub raising_is_no_end : List Entry
raising_is_no_end =
    entry (Quit 1) (reply.Unknown)
    ∷ entry (Commit 1) (reply.Unknown)
    ∷ entry (Commit 0) (reply.Over (fate.Aborted cause.Quit))
    ∷ entry (Quit 0) (reply.Aborted cause.Quit ([]))
    ∷ entry (Commit 0) (reply.NotEnded)
    ∷ entry (Step 0) (reply.Looked (0, pos 9) None)
    ∷ entry (Start 0 (pos 9 ∷ [])) (reply.Started 0)
    ∷ []

raising_is_no_end-legal : Legal (small_bank 8 100) raising_is_no_end
raising_is_no_end-legal =
    tt ▸ refl ▸ inr (made_by (0 ∷ []) refl) ▸ refl ▸ aborts_by ([]) ([]) (0 ∷ []) refl refl refl ▸ refl ▸ refl ▸ refl

-- a write that would close three cycles: the reply may name any of them, and is otherwise the same
abbrev pub several_cycles : List Entry
several_cycles =
    entry (Step 1) (reply.Wrote (2, pos 103) (Some (pos 1000)))
    ∷ entry (Step 0) (reply.Wrote (2, pos 103) (Some (pos 1000)))
    ∷ entry (Step 2) (reply.Looked (2, pos 103) (Some (pos 300)))
    ∷ entry (Step 1) (reply.Looked (2, pos 101) (Some (pos 1000)))
    ∷ entry (Step 0) (reply.Looked (2, pos 101) (Some (pos 1000)))
    ∷ entry (Start 5 (pos 103 ∷ pos 101 ∷ [])) (reply.Started 2)
    ∷ entry (Start 5 (pos 101 ∷ pos 103 ∷ [])) (reply.Started 1)
    ∷ entry (Start 5 (pos 101 ∷ pos 103 ∷ [])) (reply.Started 0)
    ∷ []

several_cycles-legal : Legal small_bank_copy several_cycles
several_cycles-legal =
    tt ▸ refl ▸ refl ▸ refl ▸ inr (made_by (0 ∷ []) refl) ▸ inr (made_by (1 ∷ []) refl) ▸ inr (made_by (2 ∷ []) refl)
    ▸ inr (made_by (0 ∷ []) refl) ▸ inr (made_by (1 ∷ []) refl)

several_cycles-first : LegalReply small_bank_copy several_cycles (Step 2) (reply.Aborted (cause.Cycle (2 ∷ 0 ∷ [])) [])
several_cycles-first = inl (refused_by (0 ∷ []) [] [] (2 ∷ []) refl refl refl refl)

several_cycles-second : LegalReply small_bank_copy several_cycles (Step 2) (reply.Aborted (cause.Cycle (2 ∷ 1 ∷ [])) [])
several_cycles-second = inl (refused_by (1 ∷ []) [] [] (2 ∷ []) refl refl refl refl)

several_cycles-longest : LegalReply small_bank_copy several_cycles (Step 2) (reply.Aborted (cause.Cycle (2 ∷ 0 ∷ 1 ∷ [])) [])
several_cycles-longest = inl (refused_by (0 ∷ 1 ∷ []) [] [] (2 ∷ []) refl refl refl refl)
