-- What is decided of the cuts that a configuration asks for, of tries that are made alone, and of calls that are handed on.
use Rattle.std.specs.Prelude.{◌≡◌, ℕ, Bool, cond, ◌&&◌, ◌||◌, nat_eq, List, Some, None, reverse}
use Rattle.std.specs.List.{list_any}
use Rattle.sgt_desk.specs.declared.alone.Solo.{Solo}
use Rattle.sgt_desk.specs.declared.plan.Plan.{Plan}
use Rattle.sgt_desk.specs.declared.plan.Planned.{Planned}
use Rattle.sgt_desk.specs.declared.plan.Planned.TheVariants.{Nothing, Cut, Pause}
use Rattle.sgt_desk.specs.declared.handing_on.Feed.{Feed}
use Rattle.sgt_desk.specs.Desks.{one_more, position_in}
use Rattle.sgt_desk.specs.Plans.{PlanTurn}
use Rattle.sgt_c.specs.declared.call_struct.SgtCall.{SgtCall}
use Rattle.sgt_c.specs.declared.held.Held.{Held}
use Rattle.sgt_c.specs.declared.reply_struct.SgtReply.{SgtReply}
use Rattle.sgt_c.specs.declared.shared.alone.SgtSolo.{SgtSolo}
use Rattle.sgt_c.specs.declared.shared.planning.SgtPlan.{SgtPlan}
use Rattle.sgt_c.specs.declared.shared.waiting.SgtNote.{SgtNote}
use Rattle.sgt_c.specs.ReplayedCalls.{ArePassed}

-- ---- cuts

-- the plan that a struct says
abbrev pub plan_in : SgtPlan → Plan
plan_in s = record { after = s.after; patience = s.patience; at = s.at; pause = cond (nat_eq s.pauses 1) (Some s.pause) None }

-- what comes next: 0 nothing, 33 a cut, 32 starts wait
abbrev pub planned_status : Planned → ℕ
planned_status Nothing = 0
planned_status Cut = 33
planned_status (Pause until) = 32

-- what a plan asks for next, and what it is then, as the structs say it
abbrev pub MakesPlan : ℕ → Bool → ℕ → ℕ → SgtPlan → SgtPlan → Bool → Type 0
MakesPlan entries is_busy now status before after wakes = (planned : Planned) × (status ≡ planned_status planned)
    × PlanTurn entries is_busy now (plan_in before) planned (plan_in after) wakes

-- ---- tries

-- what a struct says of tries that are made alone
abbrev pub solo_in : SgtSolo → Solo
solo_in s = record { waiting = s.waiting; is_live = nat_eq s.is_live 1 }

-- a noted transaction is of this thread
abbrev pub has_own : List SgtNote → ℕ → Bool
has_own notes thread = list_any (λ (n : SgtNote). nat_eq n.thread thread) notes

-- whether a start may be made: 0 it may, 32 it waits, 11 it would wait for ever though its thread has something live
abbrev pub admission : Bool → Bool → Bool → ℕ
admission waits for_ever has_own = cond waits (cond (for_ever && has_own) 11 32) 0

-- the fields of a reply are of a conflict: an abort by a cycle, or the end of a transaction that was aborted in cascade
abbrev pub conflict_in : SgtReply → Bool
conflict_in s = (nat_eq s.kind 14 && nat_eq s.cause 1) || (nat_eq s.kind 7 && nat_eq s.cause 4)

-- ---- calls that are handed on

-- the call is the only one from the position of the feed to its next one, and its number is how many were handed on before
pub record HandsOn (h : Held) (feed : Feed) (call : List SgtCall) (number : ℕ) (next : Feed) : Type 0 where
  pub passed : ArePassed (reverse h.engine.past) (position_in feed h.part) call 1 next.read
  pub part : next.part ≡ h.part
  pub numbered : number ≡ feed.count
  pub counted : next.count ≡ one_more feed.count
