-- The only live transaction is not hindered, whichever lists its reply has.
use Rattle.std.specs.Prelude.{◌≡◌, ℕ, Bool, true, false, List}
use Rattle.std.proofs.Common.{refl, sym, ap, ◌∙◌, subst}
use Rattle.sgt_model.specs.declared.entry.Entry.{Entry}
use Rattle.sgt_model.specs.declared.event.Event.{Event}
use Rattle.sgt_model.specs.declared.reply.Reply.{Reply}
use Rattle.sgt_model.specs.declared.reply.Reply.TheVariants as reply
use Rattle.sgt_model.specs.declared.reply.Cause.TheVariants as cause
use Rattle.sgt_model.specs.declared.short_reply.ShortReply.{ShortReply}
use Rattle.sgt_model.specs.declared.short_reply.ShortReply.TheVariants as short
use Rattle.sgt_model.specs.declared.short_reply.ShortCause.TheVariants as short_cause
use Rattle.sgt_model.specs.Legality.{Legal, LegalReply}
use Rattle.sgt_model.specs.Configurations.{Configuration}
use Rattle.sgt_model.specs.ShortReplies.{short_reply}
use Rattle.sgt_progress.specs.Alone.{IsAlone, IsNoQuitOf, is_hindered}
use Rattle.sgt_progress.proofs.Alone.{alone_is_not_aborted}
use Rattle.sgt_engine.specs.EngineView.{EngineView, configuration_of}

-- a short reply says whether it hinders
abbrev hinders : ShortReply → Bool
hinders (short.Waits u) = true
hinders (short.Aborted short_cause.Cycle) = true
hinders _ = false

hinders_alike : (r : Reply) → is_hindered r ≡ hinders (short_reply r)
hinders_alike (reply.Started t) = refl
hinders_alike reply.NoProcedure = refl
hinders_alike reply.BadArgs = refl
hinders_alike reply.Spent = refl
hinders_alike reply.Full = refl
hinders_alike reply.Unknown = refl
hinders_alike (reply.Over f) = refl
hinders_alike (reply.Looked k v) = refl
hinders_alike (reply.Wrote k v) = refl
hinders_alike reply.Ended = refl
hinders_alike reply.NotEnded = refl
hinders_alike (reply.Waits t) = refl
hinders_alike (reply.Committed answers) = refl
hinders_alike (reply.Aborted (cause.Cycle cycle) fell) = refl
hinders_alike (reply.Aborted (cause.Asked code) fell) = refl
hinders_alike (reply.Aborted cause.Quit fell) = refl
hinders_alike (reply.Refused code fell) = refl

pub undisturbed : (s : Configuration) (past : List Entry) → Legal s past → (t : ℕ) → IsAlone past t → (event : Event) → IsNoQuitOf event t
    → (reported r : Reply) → short_reply reported ≡ short_reply r → LegalReply s past event reported → is_hindered r ≡ false
undisturbed s past legal t alone event of_t reported r same h = hinders_alike r ∙ ap hinders (sym same) ∙ sym (hinders_alike reported)
    ∙ alone_is_not_aborted s past legal t alone event of_t reported h

-- what holds of the parts holds of the view
pub legal_before : {e e' : EngineView} → e ≡ e' → Legal (configuration_of e) e.past → Legal (configuration_of e') e'.past
legal_before same legal = subst (λ (e : EngineView). Legal (configuration_of e) e.past) same legal
