-- The reply to a start, by the rules, the number of starts and the number of live transactions.
use Rattle.std.specs.Prelude.{ℕ, ℤ, Bool, ◌&&◌, cond, nat_eq, List, length, Option, Some, None}
use Rattle.std.specs.List.{list_all}
use Rattle.sgt_model.specs.declared.reply.Reply.{Reply}
use Rattle.sgt_model.specs.declared.reply.Reply.TheVariants as reply
use Rattle.sgt_model.specs.declared.limits.Limits.{Limits}
use Rattle.sgt_model.specs.Numbers.{is_value}
use Rattle.sgt_model.specs.Configurations.{Rules, takes}

-- as many arguments as the procedure takes, each a value
abbrev pub args_fit : ℕ → List ℤ → Bool
args_fit count args = nat_eq (length args) count && list_all is_value args

-- the reply by the limits: whether they allow one more
abbrev pub capacity_reply : Limits → ℕ → ℕ → Reply
capacity_reply limits started living = cond (nat_eq started limits.begins) reply.Spent (cond (nat_eq living limits.live) reply.Full (reply.Started started))

-- the reply if the procedure takes this many arguments
abbrev pub taken_reply : Limits → ℕ → ℕ → Option ℕ → List ℤ → Reply
taken_reply limits started living None args = reply.NoProcedure
taken_reply limits started living (Some count) args = cond (args_fit count args) (capacity_reply limits started living) reply.BadArgs

-- the one reply to a start: no such procedure, bad arguments, the most starts used up, full, or started with the next number
abbrev pub start_reply : Rules → ℕ → ℕ → ℕ → List ℤ → Reply
start_reply rules started living p args = taken_reply rules.limits started living (takes rules p) args
