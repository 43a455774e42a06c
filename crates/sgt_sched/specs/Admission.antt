-- Whether a transaction may start.
use Rattle.std.specs.Prelude.{◌≡◌, ◌<◌, ℕ, ℤ, List, length, Result, Ok, Err}
use Rattle.sgt_model.specs.declared.limits.Limits.{Limits}
use Rattle.sgt_model.specs.declared.reply.Reply.TheVariants as reply
use Rattle.sgt_model.specs.State.{State}
use Rattle.sgt_model.specs.Configurations.{Rules}
use Rattle.sgt_model.specs.CallEffects.{start_answer, StartEffect}
use Rattle.sgt_model.specs.declared.short_reply.ShortReply.{ShortReply}
use Rattle.sgt_sched.specs.Replies.{WithAnyLists}

-- t is the next number, and the limits allow it
pub record HasCapacity (limits : Limits) (c : State) (t : ℕ) : Type 0 where
  pub next : t ≡ c.start_count
  pub begins : c.start_count < limits.begins
  pub live : length c.live < limits.live

-- the start gets this number, which the limits allow; or it gets this reply, and does nothing
abbrev pub Admits : Rules → State → ℕ → List ℤ → Result ℕ ShortReply → Type 0
Admits rules c procedure args (Ok t) = (reply.Started t ≡ start_answer rules c procedure args) × HasCapacity rules.limits c t
Admits rules c procedure args (Err r) = WithAnyLists (StartEffect rules procedure args) c r c
