-- A reply and its short form.
use Rattle.std.proofs.Common.{◌≡◌, ℕ, [], refl, ap, ◌∙◌, sym}
use Rattle.sgt_model.specs.declared.reply.Cause.{Cause}
use Rattle.sgt_model.specs.declared.reply.Cause.TheVariants as cause
use Rattle.sgt_model.specs.declared.reply.Fate.{Fate}
use Rattle.sgt_model.specs.declared.reply.Fate.TheVariants as fate
use Rattle.sgt_model.specs.declared.reply.Reply.{Reply}
use Rattle.sgt_model.specs.declared.reply.Reply.TheVariants as reply
use Rattle.sgt_model.specs.declared.short_reply.ShortReply.TheVariants as bare
use Rattle.sgt_model.specs.Fates.{is_start}
use Rattle.sgt_model.specs.ShortReplies.{answers_in, cause_cycle, fate_cycle, fell_in, full_cause, full_fate, full_reply, short_cause, short_fate, short_reply, cycle_of_reply}

whole_cause : (c : Cause) → full_cause (short_cause c) (cause_cycle c) ≡ c
whole_cause (cause.Cycle walk) = refl
whole_cause (cause.Asked code) = refl
whole_cause cause.Quit = refl

whole_fate : (f : Fate) → full_fate (short_fate f) (fate_cycle f) ≡ f
whole_fate fate.Committed = refl
whole_fate (fate.Aborted c) = ap fate.Aborted (whole_cause c)
whole_fate (fate.Fell t) = refl

-- a reply is its short form with its lists
pub whole : (r : Reply) → full_reply (short_reply r) (answers_in r) (cycle_of_reply r) (fell_in r) ≡ r
whole (reply.Over f) = ap reply.Over (whole_fate f)
whole (reply.Aborted c fell) = ap (λ c. reply.Aborted c fell) (whole_cause c)
whole _ = refl

-- a reply whose short form starts a transaction
pub started_in_short : (r : Reply) (t : ℕ) → short_reply r ≡ bare.Started t → r ≡ reply.Started t
started_in_short r t is = sym (whole r) ∙ ap (λ s. full_reply s (answers_in r) (cycle_of_reply r) (fell_in r)) is

-- whether a reply starts a transaction does not depend on its lists
pub start_without : (r : Reply) → is_start r ≡ is_start (full_reply (short_reply r) [] [] [])
start_without (reply.Started t) = refl
start_without _ = refl
