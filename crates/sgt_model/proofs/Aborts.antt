-- Each abort of a legal history has its cause.
use Rattle.std.specs.Prelude.{List, [], ◌∷◌}
use Rattle.std.proofs.Common.{sym, subst, subst₂}
use Rattle.sgt_model.specs.declared.event.Event.{Event}
use Rattle.sgt_model.specs.declared.reply.Reply.{Reply}
use Rattle.sgt_model.specs.declared.entry.Entry.{Entry}
use Rattle.sgt_model.specs.Falls.{Falls}
use Rattle.sgt_model.specs.Configurations.{Configuration}
use Rattle.sgt_model.specs.Legality.{Legal}
use Rattle.sgt_model.specs.Aborts.{ReplyIsJustified, AbortsHaveCause}
use Rattle.sgt_model.proofs.Effects.{ends_none-cause, Effect, idle, begins, accesses, commits, undoes, refuses, effect}

abort_has_cause : {s : Configuration} {past : List Entry} {event : Event} {r : Reply} → Effect s past event r
    → ReplyIsJustified s past event r
abort_has_cause {s} {past} {event} {r} (idle i) = ends_none-cause s past event r i.ends_none
abort_has_cause {s} {past} {event} {r} (begins b) = subst (λ x. ReplyIsJustified s past event x) (sym b.reply_is) tt
abort_has_cause {s} {past} {event} {r} (accesses x) = ends_none-cause s past event r x.ends_none
abort_has_cause {s} {past} {event} {r} (commits c) = subst (λ x. ReplyIsJustified s past event x) (sym c.reply_is) tt
abort_has_cause {s} {past} {event} {r} (undoes x) = subst (λ y. ReplyIsJustified s past event y) (sym x.reply_is)
    (x.has_cause, subst (λ t. Falls past t x.undoing.fell) (sym x.subject_is) x.undoing.falls)
abort_has_cause {s} {past} {event} {r} (refuses x) = subst₂ (λ ev y. ReplyIsJustified s past ev y) (sym x.event_is) (sym x.reply_is)
    (x.next, x.undoing.falls)

pub aborts_have_cause : (s : Configuration) (past : List Entry) → Legal s past → AbortsHaveCause s past
aborts_have_cause s [] h = tt
aborts_have_cause s (e ∷ past) h = (aborts_have_cause s past h.0, abort_has_cause (effect s past e.event e.reply h.1))
