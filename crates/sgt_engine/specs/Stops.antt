-- Where a list of events stopped.
use Rattle.std.specs.Prelude.{◌≡◌, ℕ, false, List, Some, slice_get}
use Rattle.sgt_model.specs.declared.event.Event.{Event}
use Rattle.sgt_model.specs.declared.reply.Reply.{Reply}
use Rattle.sgt_model.specs.Legality.{LegalReply}
use Rattle.sgt_model.specs.Questions.{is_ending}
use Rattle.sgt_engine.specs.EngineView.{EngineView, configuration_of}

-- after this many of these events, the next one, if any, ends no live transaction
abbrev pub StopsAtNoEnd : EngineView → ℕ → List Event → Type 0
StopsAtNoEnd e done events = (event : Event) → slice_get events done ≡ Some event → (r : Reply) → LegalReply (configuration_of e) e.past event r
    → is_ending r ≡ false
