-- Worked examples of cascades over three levels, with four and five live: a reader of a reader of a reader is aborted too.
use Rattle.std.specs.Prelude.{◌≡◌, pos, List, [], ◌∷◌, Some, refl}
use Rattle.std.proofs.Common.{inl, inr}
use Rattle.sgt_model.specs.declared.event.Event.TheVariants.{Start, Step, Commit, Quit}
use Rattle.sgt_model.specs.declared.reply.Reply.TheVariants as reply
use Rattle.sgt_model.specs.declared.reply.Cause.TheVariants as cause
use Rattle.sgt_model.specs.declared.reply.Fate.TheVariants as fate
use Rattle.sgt_model.specs.declared.entry.Entry.{Entry}
use Rattle.sgt_model.specs.Values.{settled}
use Rattle.sgt_model.specs.Legality.{Legal}
use Rattle.sgt_model.proofs.Computed.{◌▸◌, made_by, aborts_by, refused_by, commits_by, waits_by}
use Rattle.sgt_model.proofs.ExampleConfigurations.{entry, small_bank_copy}

-- each of 1, 2 and 3 has read what the one before it wrote; 4 has written over what 0 wrote, and has read from none
abbrev pub three_levels : List Entry
three_levels =
    entry (Step 4) (reply.Wrote (2, pos 101) (Some (pos 300)))
    ∷ entry (Step 3) (reply.Looked (2, pos 103) (Some (pos 1010)))
    ∷ entry (Step 3) (reply.Looked (1, pos 103) (Some (pos 0)))
    ∷ entry (Step 3) (reply.Looked (0, pos 3) (Some (pos 103)))
    ∷ entry (Step 2) (reply.Wrote (2, pos 103) (Some (pos 1010)))
    ∷ entry (Step 2) (reply.Looked (2, pos 102) (Some (pos 1010)))
    ∷ entry (Step 1) (reply.Wrote (2, pos 102) (Some (pos 1010)))
    ∷ entry (Step 1) (reply.Looked (2, pos 101) (Some (pos 1010)))
    ∷ entry (Step 0) (reply.Wrote (2, pos 101) (Some (pos 1010)))
    ∷ entry (Step 0) (reply.Looked (2, pos 101) (Some (pos 1000)))
    ∷ entry (Step 0) (reply.Looked (0, pos 1) (Some (pos 101)))
    ∷ entry (Step 4) (reply.Looked (2, pos 103) (Some (pos 300)))
    ∷ entry (Start 5 (pos 103 ∷ pos 101 ∷ [])) (reply.Started 4)
    ∷ entry (Start 0 (pos 3 ∷ [])) (reply.Started 3)
    ∷ entry (Start 5 (pos 102 ∷ pos 103 ∷ [])) (reply.Started 2)
    ∷ entry (Start 5 (pos 101 ∷ pos 102 ∷ [])) (reply.Started 1)
    ∷ entry (Start 1 (pos 1 ∷ pos 10 ∷ [])) (reply.Started 0)
    ∷ []

-- the first is aborted: its readers are aborted in cascade, and the one that wrote over its value commits
abbrev pub three_level_cascade : List Entry
three_level_cascade =
    entry (Commit 4) (reply.Committed [])
    ∷ entry (Step 3) (reply.Over (fate.Fell 0))
    ∷ entry (Quit 0) (reply.Aborted cause.Quit (1 ∷ 2 ∷ 3 ∷ []))
    ∷ entry (Commit 4) (reply.Waits 0)
    ∷ three_levels

three_level_cascade-legal : Legal small_bank_copy three_level_cascade
three_level_cascade-legal =
    tt ▸ refl ▸ refl ▸ refl ▸ refl ▸ refl ▸ inr (made_by (4 ∷ []) refl) ▸ inr (made_by (0 ∷ []) refl)
    ▸ inr (made_by (0 ∷ []) refl) ▸ inr (made_by (0 ∷ []) refl) ▸ inr (made_by (1 ∷ []) refl)
    ▸ inr (made_by (1 ∷ []) refl) ▸ inr (made_by (2 ∷ []) refl) ▸ inr (made_by (2 ∷ []) refl)
    ▸ inr (made_by (3 ∷ []) refl) ▸ inr (made_by (3 ∷ []) refl) ▸ inr (made_by (3 ∷ []) refl)
    ▸ inr (made_by (4 ∷ 2 ∷ 3 ∷ []) refl) ▸ inl (waits_by refl)
    ▸ aborts_by (1 ∷ 2 ∷ 3 ∷ []) ((1 ∷ []) ∷ (1 ∷ 2 ∷ []) ∷ (1 ∷ 2 ∷ 3 ∷ []) ∷ []) (0 ∷ 1 ∷ 2 ∷ 3 ∷ []) refl refl refl
    ▸ refl ▸ inr (commits_by refl)

three_level_cascade-first : settled small_bank_copy.opening three_level_cascade (2, pos 101) ≡ Some (pos 300)
three_level_cascade-first = refl

three_level_cascade-second : settled small_bank_copy.opening three_level_cascade (2, pos 102) ≡ Some (pos 200)
three_level_cascade-second = refl

three_level_cascade-third : settled small_bank_copy.opening three_level_cascade (2, pos 103) ≡ Some (pos 300)
three_level_cascade-third = refl

-- the first reads what the third wrote, which would close a cycle, and three levels of readers are aborted in cascade
abbrev pub three_level_cycle : List Entry
three_level_cycle =
    entry (Step 0) (reply.Over (fate.Aborted (cause.Cycle (0 ∷ 1 ∷ 2 ∷ []))))
    ∷ entry (Commit 3) (reply.Over (fate.Fell 0))
    ∷ entry (Step 0) (reply.Aborted (cause.Cycle (0 ∷ 1 ∷ 2 ∷ [])) (1 ∷ 2 ∷ 3 ∷ []))
    ∷ entry (Step 3) (reply.Looked (2, pos 103) (Some (pos 0)))
    ∷ entry (Step 3) (reply.Looked (1, pos 103) (Some (pos 0)))
    ∷ entry (Step 3) (reply.Looked (0, pos 3) (Some (pos 103)))
    ∷ entry (Step 2) (reply.Wrote (2, pos 103) (Some (pos 0)))
    ∷ entry (Step 2) (reply.Looked (2, pos 102) (Some (pos 0)))
    ∷ entry (Step 1) (reply.Wrote (2, pos 102) (Some (pos 0)))
    ∷ entry (Step 1) (reply.Looked (2, pos 101) (Some (pos 0)))
    ∷ entry (Step 0) (reply.Wrote (2, pos 101) (Some (pos 0)))
    ∷ entry (Step 0) (reply.Wrote (1, pos 101) (Some (pos 0)))
    ∷ entry (Step 0) (reply.Looked (2, pos 101) (Some (pos 1000)))
    ∷ entry (Step 0) (reply.Looked (1, pos 101) (Some (pos 500)))
    ∷ entry (Step 0) (reply.Looked (0, pos 3) (Some (pos 103)))
    ∷ entry (Step 0) (reply.Looked (0, pos 1) (Some (pos 101)))
    ∷ entry (Start 0 (pos 3 ∷ [])) (reply.Started 3)
    ∷ entry (Start 5 (pos 102 ∷ pos 103 ∷ [])) (reply.Started 2)
    ∷ entry (Start 5 (pos 101 ∷ pos 102 ∷ [])) (reply.Started 1)
    ∷ entry (Start 3 (pos 1 ∷ pos 3 ∷ [])) (reply.Started 0)
    ∷ []

three_level_cycle-legal : Legal small_bank_copy three_level_cycle
three_level_cycle-legal =
    tt ▸ refl ▸ refl ▸ refl ▸ refl ▸ inr (made_by (0 ∷ []) refl) ▸ inr (made_by (0 ∷ []) refl)
    ▸ inr (made_by (0 ∷ []) refl) ▸ inr (made_by (0 ∷ []) refl) ▸ inr (made_by (0 ∷ []) refl)
    ▸ inr (made_by (0 ∷ []) refl) ▸ inr (made_by (1 ∷ []) refl) ▸ inr (made_by (1 ∷ []) refl)
    ▸ inr (made_by (2 ∷ []) refl) ▸ inr (made_by (2 ∷ []) refl) ▸ inr (made_by (3 ∷ []) refl)
    ▸ inr (made_by (3 ∷ []) refl) ▸ inr (made_by (3 ∷ []) refl)
    ▸ inl (refused_by (1 ∷ 2 ∷ []) (1 ∷ 2 ∷ 3 ∷ []) ((1 ∷ []) ∷ (1 ∷ 2 ∷ []) ∷ (1 ∷ 2 ∷ 3 ∷ []) ∷ []) (0 ∷ 1 ∷ 2 ∷ 3 ∷ []) refl refl
    refl refl)
    ▸ refl ▸ refl

three_level_cycle-first : settled small_bank_copy.opening three_level_cycle (2, pos 101) ≡ Some (pos 1000)
three_level_cycle-first = refl
