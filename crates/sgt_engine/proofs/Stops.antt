-- Where a list of events stops, the next one ends no live transaction.
use Rattle.std.proofs.Common.{◌≡◌, ℕ, ◌≤◌, arith, Bool, true, false, List, length, Result, Some, refl, sym, ◌∙◌, subst}
use Rattle.std.specs.Prelude.{slice_get}
use Rattle.std.specs.Result.{IsOk, is_ok}
use Rattle.std.proofs.lemmas.Bool.{true≢false}
use Rattle.std.proofs.lemmas.Option.{same_Some, slice_get_within}
use Rattle.sgt_model.specs.declared.errors.NoMemory.{NoMemory}
use Rattle.sgt_model.specs.declared.event.Event.{Event}
use Rattle.sgt_model.specs.declared.reply.Reply.{Reply}
use Rattle.sgt_model.specs.Legality.{LegalReply}
use Rattle.sgt_model.specs.Questions.{is_ending}
use Rattle.sgt_engine.specs.EngineView.{EngineView, configuration_of}
use Rattle.sgt_engine.specs.Stops.{StopsAtNoEnd}

-- at its end there is no next event
pub stops_at_end : (e : EngineView) (done : ℕ) (events : List Event) → length events ≤ done → StopsAtNoEnd e done events
stops_at_end e done events following event is r legal = absurd (omega (arith, following, slice_get_within events done event is))

-- an event that failed to allocate ends none
pub stops_refused : (e now : EngineView) (done : ℕ) (events : List Event) (event : Event) (result : Result Reply NoMemory) → now ≡ e
    → slice_get events done ≡ Some event → is_ok result ≡ false
    → ((r : Reply) → LegalReply (configuration_of e) e.past event r → is_ending r ≡ true → IsOk result) → StopsAtNoEnd now done events
stops_refused e now done events event result same is refused no_memory other other_is r legal = both (is_ending r) refl where
  here : LegalReply (configuration_of e) e.past event r
  here = subst (λ v. LegalReply (configuration_of v) v.past event r) same
      (subst (λ x. LegalReply (configuration_of now) now.past x r) (same_Some _ _ (sym other_is ∙ is)) legal)

  both : (b : Bool) → is_ending r ≡ b → is_ending r ≡ false
  both true ends = absurd (true≢false (sym (no_memory r here ends) ∙ refused))
  both false quiet = quiet
