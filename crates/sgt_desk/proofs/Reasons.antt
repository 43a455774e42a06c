-- A run that rests for a reason of its own rests for one that it may have.
use Rattle.std.proofs.Common.{ℕ, Option, Some, None, inr, inl}
use Rattle.sgt_model.specs.declared.short_reply.ShortReply.{ShortReply}
use Rattle.sgt_desk.specs.declared.reason.Reason.{Reason}
use Rattle.sgt_desk.specs.declared.reason.Reason.TheVariants.{Turn, Full, End, Busy, Cut}
use Rattle.sgt_desk.specs.Desks.{DeskState}
use Rattle.sgt_desk.specs.Runs.{RunsWhy}

pub why_now : (d : DeskState) (before : Option Reason) (attempt : Option ℕ) (short : ShortReply) (reason : Option Reason)
    → RunsWhy d None attempt short reason → RunsWhy d before attempt short reason
why_now d before attempt short (Some (Turn t u)) (inr w) = inr w
why_now d before attempt short (Some (Full n)) (inr w) = inr w
why_now d before attempt short (Some (End n)) (inr w) = inr w
why_now d before attempt short (Some (Turn t u)) (inl e) = absurd (cc e)
why_now d before attempt short (Some (Full n)) (inl e) = absurd (cc e)
why_now d before attempt short (Some (End n)) (inl e) = absurd (cc e)
why_now d before attempt short (Some (Busy n)) e = absurd (cc e)
why_now d before attempt short (Some Cut) (inr w) = inr w
why_now d before attempt short (Some Cut) (inl e) = absurd (cc e)
why_now d before attempt short None w = w
