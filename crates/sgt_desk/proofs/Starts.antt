-- What a start says of the limits, and which events start nothing.
use Rattle.std.proofs.Common.{◌≡◌, ℕ, ◌+◌, ℤ, Bool, true, false, cond, nat_eq, List, ◌∷◌, length, Option, Some, None, refl, sym, ap, subst, ◌∙◌}
use Rattle.std.proofs.lemmas.Bool.{eqb-true}
use Rattle.sgt_model.specs.declared.entry.Entry.{Entry}
use Rattle.sgt_model.specs.declared.event.Event.{Event}
use Rattle.sgt_model.specs.declared.event.Event.TheVariants.{Start}
use Rattle.sgt_model.specs.declared.limits.Limits.{Limits}
use Rattle.sgt_model.specs.declared.reply.Reply.{Reply}
use Rattle.sgt_model.specs.declared.reply.Reply.TheVariants as reply
use Rattle.sgt_model.specs.declared.short_reply.ShortReply.{ShortReply}
use Rattle.sgt_model.specs.declared.short_reply.ShortReply.TheVariants as bare
use Rattle.sgt_model.specs.Fates.{is_start, live_ones, start_count}
use Rattle.sgt_model.specs.Legality.{LegalReply}
use Rattle.sgt_model.specs.Questions.{named_by}
use Rattle.sgt_model.specs.Configurations.{Configuration, takes}
use Rattle.sgt_model.specs.ShortReplies.{short_reply}
use Rattle.sgt_model.specs.StartReply.{args_fit, capacity_reply, taken_reply}
use Rattle.sgt_model.proofs.Effects.{Effect, effect, idle, begins, accesses, commits, undoes, refuses}
use Rattle.sgt_desk.specs.Engines.{Answered}

module _ (limits : Limits) (begun living : ℕ) where
  capacity_full : (spent full : Bool) → cond spent reply.Spent (cond full reply.Full (reply.Started begun)) ≡ reply.Full → full ≡ true
  capacity_full true full e = absurd cc
  capacity_full false true e = refl
  capacity_full false false e = absurd cc

  fit_full : (fits : Bool) → cond fits (capacity_reply limits begun living) reply.BadArgs ≡ reply.Full → nat_eq living limits.live ≡ true
  fit_full true e = capacity_full (nat_eq begun limits.begins) (nat_eq living limits.live) e
  fit_full false e = absurd cc

  taken_full : (taken : Option ℕ) (args : List ℤ) → taken_reply limits begun living taken args ≡ reply.Full → nat_eq living limits.live ≡ true
  taken_full None args e = absurd cc
  taken_full (Some count) args e = fit_full (args_fit count args) e

pub full_is : (r : Reply) → short_reply r ≡ bare.Full → r ≡ reply.Full
full_is reply.Full e = refl
full_is (reply.Started t) e = absurd cc
full_is reply.NoProcedure e = absurd cc
full_is reply.BadArgs e = absurd cc
full_is reply.Spent e = absurd cc
full_is reply.Unknown e = absurd cc
full_is (reply.Over f) e = absurd cc
full_is (reply.Looked k v) e = absurd cc
full_is (reply.Wrote k v) e = absurd cc
full_is reply.Ended e = absurd cc
full_is reply.NotEnded e = absurd cc
full_is (reply.Waits t) e = absurd cc
full_is (reply.Committed answers) e = absurd cc
full_is (reply.Aborted why fell) e = absurd cc
full_is (reply.Refused code fell) e = absurd cc

-- if a start is answered `Full`, as many are live as the limits allow
pub full_count : (s : Configuration) (p : ℕ) (args : List ℤ) (before after : List Entry) (short : ShortReply)
    → Answered s (Start p args) before short after → short ≡ bare.Full → length (live_ones after) ≡ s.rules.limits.live
full_count s p args before after short it is =
    subst (λ l. length (live_ones l) ≡ s.rules.limits.live) (sym it.adds)
    (subst (λ r. length (live_ones (record { event = Start p args; reply = r } ∷ before)) ≡ s.rules.limits.live) (sym full) (eqb-true _ _ living))
  where
    full : it.reply ≡ reply.Full
    full = full_is it.reply (it.is_short ∙ is)

    living : nat_eq (length (live_ones before)) s.rules.limits.live ≡ true
    living = taken_full s.rules.limits (start_count before) (length (live_ones before)) (takes s.rules p) args (sym it.legal ∙ full)

-- an event that names a transaction starts none
pub starts_none : (s : Configuration) (past : List Entry) (event : Event) (r : Reply) (t : ℕ) → LegalReply s past event r → named_by event ≡ Some t
    → is_start r ≡ false
starts_none s past event r t legal named = by_effect (effect s past event r legal)
  where
    by_effect : Effect s past event r → is_start r ≡ false
    by_effect (idle i) = i.no_start
    by_effect (begins b) = absurd (cc (sym (ap named_by b.event_is) ∙ named))
    by_effect (accesses x) = x.no_start
    by_effect (commits c) = ap is_start c.reply_is
    by_effect (undoes x) = ap is_start x.reply_is
    by_effect (refuses x) = ap is_start x.reply_is

-- so the number of starts stays
pub count_stays : (s : Configuration) (event : Event) (t : ℕ) (before after : List Entry) (short : ShortReply) → Answered s event before short after
    → named_by event ≡ Some t → start_count after ≡ start_count before
count_stays s event t before after short it named =
    ap start_count it.adds ∙ ap (λ b. cond b (start_count before + 1) (start_count before)) (starts_none s before event it.reply t it.legal named)
