-- Which fields of a reply are of a conflict, and what a plan's struct says.
use Rattle.std.proofs.Common.{◌≡◌, ℕ, Bool, true, refl, sym, subst}
use Rattle.sgt_model.specs.declared.reply.Reply.{Reply}
use Rattle.sgt_model.specs.declared.reply.Reply.TheVariants as reply
use Rattle.sgt_model.specs.declared.reply.Cause.TheVariants as cause
use Rattle.sgt_model.specs.declared.reply.Fate.TheVariants as fate
use Rattle.sgt_model.specs.ShortReplies.{short_reply}
use Rattle.sgt_desk.specs.declared.plan.Plan.{Plan}
use Rattle.sgt_desk.specs.declared.plan.Planned.{Planned}
use Rattle.sgt_desk.specs.Plans.{PlanTurn}
use Rattle.sgt_desk.specs.Runs.{is_conflict}
use Rattle.sgt_c.specs.declared.reply_struct.SgtReply.{SgtReply}
use Rattle.sgt_c.specs.declared.shared.planning.SgtPlan.{SgtPlan}
use Rattle.sgt_c.specs.Decisions.{conflict_in, plan_in}
use Rattle.sgt_c.specs.ReplyStructs.{HoldsReply}

pub conflict_said : (s : SgtReply) (r : Reply) → HoldsReply s r → conflict_in s ≡ is_conflict (short_reply r)
conflict_said s (reply.Started t) h = rw h.0 refl
conflict_said s reply.NoProcedure h = rw h refl
conflict_said s reply.BadArgs h = rw h refl
conflict_said s reply.Spent h = rw h refl
conflict_said s reply.Full h = rw h refl
conflict_said s reply.Unknown h = rw h refl
conflict_said s (reply.Over fate.Committed) h = rw (h.0, h.1) refl
conflict_said s (reply.Over (fate.Aborted (cause.Cycle walk))) h = rw (h.0, h.1.0) refl
conflict_said s (reply.Over (fate.Aborted (cause.Asked code))) h = rw (h.0, h.1.0) refl
conflict_said s (reply.Over (fate.Aborted cause.Quit)) h = rw (h.0, h.1) refl
conflict_said s (reply.Over (fate.Fell first)) h = rw (h.0, h.1.0) refl
conflict_said s (reply.Looked key value) h = rw h.0 refl
conflict_said s (reply.Wrote key value) h = rw h.0 refl
conflict_said s reply.Ended h = rw h refl
conflict_said s reply.NotEnded h = rw h refl
conflict_said s (reply.Waits first) h = rw h.0 refl
conflict_said s (reply.Committed answers) h = rw h.0 refl
conflict_said s (reply.Aborted (cause.Cycle walk) fell) h = rw (h.0, h.1.0) refl
conflict_said s (reply.Aborted (cause.Asked code) fell) h = rw (h.0, h.1.0) refl
conflict_said s (reply.Aborted cause.Quit fell) h = rw (h.0, h.1) refl
conflict_said s (reply.Refused code fell) h = rw h.0 refl

-- a turn of a plan is one of the structs that say it, and whoever notes that it wakes may have been to wake before
pub plan_said : (entries : ℕ) (is_busy : Bool) (now : ℕ) (before after : SgtPlan) (p q : Plan) (planned : Planned) (woken wakes : Bool)
    → p ≡ plan_in before → plan_in after ≡ q → (woken ≡ true → wakes ≡ true) → PlanTurn entries is_busy now p planned q woken
    → PlanTurn entries is_busy now (plan_in before) planned (plan_in after) wakes
plan_said entries is_busy now before after p q planned woken wakes from to noted t =
    subst (λ r. PlanTurn entries is_busy now r planned (plan_in after) wakes) from
    (subst (λ r. PlanTurn entries is_busy now p planned r wakes) (sym to) (record {
      cut = t.cut;
      pause = t.pause;
      paused = t.paused;
      at = t.at;
      cut_next = t.cut_next;
      nothing = t.nothing;
      put_off = λ until due busy is late. let r = t.put_off until due busy is late in (r.0, noted r.1);
      not_due = t.not_due;
      same = t.same;
    }))
