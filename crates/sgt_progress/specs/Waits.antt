-- A commit that was told to wait can be asked again: its procedure stays at its end.
use Rattle.std.specs.Prelude.{◌≡◌, ◌≢◌, ℕ, Bool, true, false, ◌||◌, nat_eq, List, [], ◌∷◌}
use Rattle.sgt_model.specs.declared.event.Event.{Event}
use Rattle.sgt_model.specs.declared.event.Event.TheVariants.{Step, Commit}
use Rattle.sgt_model.specs.declared.reply.Reply.{Reply}
use Rattle.sgt_model.specs.declared.reply.Reply.TheVariants as reply
use Rattle.sgt_model.specs.declared.entry.Entry.{Entry}
use Rattle.sgt_model.specs.Configurations.{Configuration}
use Rattle.sgt_model.specs.Legality.{Legal, LegalReply}
use Rattle.sgt_model.specs.Laws.{InEach}

-- the event asks for the commit of t, and the reply says that it has to wait
abbrev pub told_in : Event → Reply → ℕ → Bool
told_in (Commit u) (reply.Waits v) t = nat_eq u t
told_in _ _ t = false

-- the commit of t was told to wait, at least once
abbrev pub was_told_to_wait : List Entry → ℕ → Bool
was_told_to_wait [] t = false
was_told_to_wait (e ∷ past) t = told_in e.event e.reply t || was_told_to_wait past t

-- no legal reply to the commit of t says that its procedure is not at its end
abbrev pub IsReady : Configuration → List Entry → ℕ → Type 0
IsReady s past t = (r : Reply) → LegalReply s past (Commit t) r → r ≢ reply.NotEnded

-- a transaction whose commit was told to wait is ready
abbrev pub WaitsStayReady : Type 0
WaitsStayReady = InEach (λ s past. (t : ℕ) → was_told_to_wait past t ≡ true → IsReady s past t)

-- a transaction is ready after a step that was answered `Ended`
abbrev pub EndsAreReady : Type 0
EndsAreReady = (s : Configuration) (past : List Entry) (t : ℕ) → Legal s past → LegalReply s past (Step t) reply.Ended
    → IsReady s (record { event = Step t; reply = reply.Ended } ∷ past) t
