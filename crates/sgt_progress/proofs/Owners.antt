-- With one live transaction each, not all owners are held up. With two, they may be.
use Rattle.std.specs.Prelude.{◌≡◌, ℕ, zero, suc, pos, true, List, [], ◌∷◌, Some}
use Rattle.std.proofs.Common.{refl, subst, inl, inr}
use Rattle.sgt_model.specs.declared.event.Event.{Event}
use Rattle.sgt_model.specs.declared.event.Event.TheVariants.{Start, Step}
use Rattle.sgt_model.specs.declared.reply.Reply.TheVariants as reply
use Rattle.sgt_model.specs.declared.entry.Entry.{Entry}
use Rattle.sgt_model.specs.Legality.{Legal, LegalReply}
use Rattle.sgt_model.proofs.Computed.{◌▸◌, made_by, waits_by}
use Rattle.sgt_model.proofs.ExampleConfigurations.{small_bank, entry}
use Rattle.sgt_progress.specs.Moves.{WaitsFor, has_moved, next_event}
use Rattle.sgt_progress.specs.Owners.{HeldUp, OwnersGoOn, TwoEachMayNot}
use Rattle.sgt_progress.proofs.Moves.{no_deadlock}

pub owners_go_on : OwnersGoOn
owners_go_on s past legal owner one t alive =
    let w = no_deadlock s past legal t alive in (
      w.0,
      w.1,
      λ held. not_moved (next_event s past w.0) held.on (w.3 (reply.Waits held.on)
          (subst (λ u. LegalReply s past (next_event s past u) (reply.Waits held.on))
          (one held.t w.0 held.waits.is_live w.1 held.own) held.waits.reported)),
    )
  where
    not_moved : (event : Event) (v : ℕ) → has_moved event (reply.Waits v) ≡ true → ⊥
    not_moved event v m = cc

-- 0 and 2 are of one session, 1 and 3 of another. 2 reads what 1 has written, and 3 what 0 has
abbrev pub crossed : List Entry
crossed =
    entry (Step 3) (reply.Looked (2, pos 102) (Some (pos 200)))
    ∷ entry (Step 3) (reply.Looked (1, pos 102) (Some (pos 50)))
    ∷ entry (Step 3) (reply.Looked (0, pos 2) (Some (pos 102)))
    ∷ entry (Start 0 (pos 2 ∷ [])) (reply.Started 3)
    ∷ entry (Step 2) (reply.Looked (2, pos 101) (Some (pos 1000)))
    ∷ entry (Step 2) (reply.Looked (1, pos 101) (Some (pos 550)))
    ∷ entry (Step 2) (reply.Looked (0, pos 1) (Some (pos 101)))
    ∷ entry (Start 0 (pos 1 ∷ [])) (reply.Started 2)
    ∷ entry (Step 1) (reply.Wrote (1, pos 101) (Some (pos 550)))
    ∷ entry (Step 1) (reply.Looked (1, pos 101) (Some (pos 500)))
    ∷ entry (Step 1) (reply.Looked (0, pos 1) (Some (pos 101)))
    ∷ entry (Start 2 (pos 1 ∷ pos 50 ∷ [])) (reply.Started 1)
    ∷ entry (Step 0) (reply.Wrote (1, pos 102) (Some (pos 50)))
    ∷ entry (Step 0) (reply.Looked (1, pos 102) (Some (pos 0)))
    ∷ entry (Step 0) (reply.Looked (0, pos 2) (Some (pos 102)))
    ∷ entry (Start 2 (pos 2 ∷ pos 50 ∷ [])) (reply.Started 0)
    ∷ []

crossed-legal : Legal (small_bank 8 100) crossed
crossed-legal = tt ▸ refl ▸ inr (made_by (0 ∷ []) refl) ▸ inr (made_by (0 ∷ []) refl) ▸ inr (made_by (0 ∷ []) refl) ▸ refl
    ▸ inr (made_by (1 ∷ []) refl) ▸ inr (made_by (1 ∷ []) refl) ▸ inr (made_by (1 ∷ []) refl) ▸ refl
    ▸ inr (made_by (2 ∷ []) refl) ▸ inr (made_by (2 ∷ []) refl) ▸ inr (made_by (2 ∷ []) refl) ▸ refl
    ▸ inr (made_by (3 ∷ []) refl) ▸ inr (made_by (3 ∷ []) refl) ▸ inr (made_by (3 ∷ []) refl)

abbrev session : ℕ → ℕ
session zero = 0
session (suc zero) = 1
session (suc (suc zero)) = 0
session (suc (suc (suc t))) = 1

-- one session sleeps in 2's commit until 1 ends, the other in 3's until 0 does; neither can ask for the one that it has to end
waits_2 : WaitsFor (small_bank 8 100) crossed 2 1
waits_2 = record { is_live = refl; reported = inl (waits_by refl) }

waits_3 : WaitsFor (small_bank 8 100) crossed 3 0
waits_3 = record { is_live = refl; reported = inl (waits_by refl) }

first_held : HeldUp (small_bank 8 100) crossed session 0
first_held = record { t = 2; own = refl; on = 1; waits = waits_2 }

second_held : HeldUp (small_bank 8 100) crossed session 1
second_held = record { t = 3; own = refl; on = 0; waits = waits_3 }

held : (u : ℕ) → HeldUp (small_bank 8 100) crossed session (session u)
held zero = first_held
held (suc zero) = second_held
held (suc (suc zero)) = first_held
held (suc (suc (suc u))) = second_held

pub two_each_may_not : TwoEachMayNot
two_each_may_not = (small_bank 8 100, crossed, session, crossed-legal, λ u alive. held u)
