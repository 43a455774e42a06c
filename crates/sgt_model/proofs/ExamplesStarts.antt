-- Worked examples of starts, and of events that are refused.
use Rattle.std.specs.Prelude.{pos, List, [], ◌∷◌, Some, refl}
use Rattle.std.proofs.Common.{inl, inr}
use Rattle.sgt_model.specs.declared.event.Event.TheVariants.{Start, Step, Commit}
use Rattle.sgt_model.specs.declared.reply.Reply.TheVariants as reply
use Rattle.sgt_model.specs.declared.reply.Fate.TheVariants as fate
use Rattle.sgt_model.specs.declared.entry.Entry.{Entry}
use Rattle.sgt_model.specs.Legality.{Legal}
use Rattle.sgt_model.proofs.Computed.{◌▸◌, made_by, commits_by, waits_by}
use Rattle.sgt_model.proofs.ExampleConfigurations.{small_bank, entry, small_bank_twice}

-- limits of one live and two started
abbrev pub limits_and_fates : List Entry
limits_and_fates =
    entry (Step 9) (reply.Unknown)
    ∷ entry (Start 0 (pos 2 ∷ [])) (reply.Spent)
    ∷ entry (Start 0 (pos 2 ∷ [])) (reply.Started 1)
    ∷ entry (Step 0) (reply.Over fate.Committed)
    ∷ entry (Commit 0) (reply.Committed (pos 1500 ∷ []))
    ∷ entry (Step 0) (reply.Looked (2, pos 101) (Some (pos 1000)))
    ∷ entry (Step 0) (reply.Looked (1, pos 101) (Some (pos 500)))
    ∷ entry (Step 0) (reply.Looked (0, pos 1) (Some (pos 101)))
    ∷ entry (Commit 0) (reply.NotEnded)
    ∷ entry (Start 0 (pos 1 ∷ [])) (reply.Full)
    ∷ entry (Start 0 (pos 1 ∷ [])) (reply.Started 0)
    ∷ []

limits_and_fates-legal : Legal (small_bank 1 2) limits_and_fates
limits_and_fates-legal =
    tt ▸ refl ▸ refl ▸ refl ▸ inr (made_by (0 ∷ []) refl) ▸ inr (made_by (0 ∷ []) refl) ▸ inr (made_by (0 ∷ []) refl)
    ▸ inr (commits_by refl) ▸ refl ▸ refl ▸ refl ▸ refl

-- if the most starts are used up and as many as may be are live, the arguments are tested first
abbrev pub tests_in_order : List Entry
tests_in_order =
    entry (Start 0 (pos 1 ∷ [])) (reply.Spent)
    ∷ entry (Start 0 ([])) (reply.BadArgs)
    ∷ entry (Start 99 ([])) (reply.NoProcedure)
    ∷ entry (Start 0 (pos 1 ∷ [])) (reply.Started 0)
    ∷ []

tests_in_order-legal : Legal (small_bank 1 1) tests_in_order
tests_in_order-legal =
    tt ▸ refl ▸ refl ▸ refl ▸ refl

-- a start with too few arguments, with one that is no value, and of no procedure
abbrev pub start_refused : List Entry
start_refused =
    entry (Start 99 []) reply.NoProcedure
    ∷ entry (Start 0 (pos 1000000000000000 ∷ [])) reply.BadArgs
    ∷ entry (Start 0 []) reply.BadArgs
    ∷ []

start_refused-legal : Legal (small_bank 8 100) start_refused
start_refused-legal =
    tt ▸ refl ▸ refl ▸ refl

-- each of two has made one of its two writes, of the same record
abbrev pub half_done : List Entry
half_done =
    entry (Step 1) (reply.Wrote (3, pos 7) (Some (pos 1)))
    ∷ entry (Step 0) (reply.Wrote (3, pos 7) (Some (pos 1)))
    ∷ entry (Start 5 []) (reply.Started 1)
    ∷ entry (Start 5 []) (reply.Started 0)
    ∷ []

-- that the procedure is not at its end is tested before predecessors are
abbrev pub not_ended_before_waits : List Entry
not_ended_before_waits =
    entry (Commit 1) (reply.Waits 0)
    ∷ entry (Step 1) (reply.Wrote (3, pos 7) (Some (pos 2)))
    ∷ entry (Commit 1) reply.NotEnded
    ∷ half_done

not_ended_before_waits-legal : Legal small_bank_twice not_ended_before_waits
not_ended_before_waits-legal =
    tt ▸ refl ▸ refl ▸ inr (made_by (0 ∷ []) refl) ▸ inr (made_by (1 ∷ []) refl) ▸ refl ▸ inr (made_by (1 ∷ []) refl)
    ▸ inl (waits_by refl)
