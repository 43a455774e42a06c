-- What a call does to the engine in a handle.
use Rattle.std.specs.Prelude.{◌≡◌, ℕ, true, Option, Some, None, IfSome}
use Rattle.sgt_model.specs.declared.event.Event.{Event}
use Rattle.sgt_model.specs.declared.event.Event.TheVariants.{Quit}
use Rattle.sgt_model.specs.declared.reply.Reply.{Reply}
use Rattle.sgt_model.specs.Fates.{live}
use Rattle.sgt_model.specs.Legality.{LegalReply}
use Rattle.sgt_model.specs.Questions.{is_ending}
use Rattle.sgt_engine.specs.EngineView.{configuration_of, with_entry}
use Rattle.sgt_engine.specs.Guarantees.{Guarantees}
use Rattle.sgt_c.specs.declared.held.Held.{Held}
use Rattle.sgt_c.specs.declared.reply_struct.SgtReply.{SgtReply}
use Rattle.sgt_c.specs.ReplyStructs.{HoldsReply}

-- the reply to the event is legal and is returned; history and replies each grow by one entry
abbrev pub AnsweredBy : Event → Held → Option Held → SgtReply → Reply → Type 0
AnsweredBy event h new reported r = (new ≡ Some (record { engine = with_entry event r h.engine; part = h.part }))
    × LegalReply (configuration_of h.engine) h.engine.past event r × HoldsReply reported r × Guarantees (with_entry event r h.engine)

-- the same for some reply
abbrev pub Answered : Event → Option Held → Option Held → SgtReply → Type 0
Answered event None new reported = ⊥
Answered event (Some h) new reported = (r : Reply) × AnsweredBy event h new reported r

-- an event that ends a live transaction succeeds
abbrev pub EndsSucceed : Event → Option Held → ℕ → Type 0
EndsSucceed event held status = IfSome held (λ h. (r : Reply) → LegalReply (configuration_of h.engine) h.engine.past event r → is_ending r ≡ true → status ≡ 0)

-- an abort (`quit`) of a live transaction succeeds
abbrev pub QuitsSucceed : Event → Option Held → ℕ → Type 0
QuitsSucceed event held status = IfSome held (λ h. (t : ℕ) → event ≡ Quit t → live h.engine.past t ≡ true → status ≡ 0)
