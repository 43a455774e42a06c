-- The session's own transactions that it must treat as live, by its receipts alone. One that was aborted in cascade
-- stays among them until a call that names it returns so.
use Rattle.std.specs.Prelude.{ℕ, ◌+◌, Bool, not, cond, nat_eq, List, [], ◌∷◌, ◌++◌, length, Option, Some, None}
use Rattle.std.specs.List.{filter, list_any}
use Rattle.sgt_model.specs.declared.event.Event.{Event}
use Rattle.sgt_model.specs.declared.event.Event.TheVariants.{Start, Step, Access, Commit, Quit}
use Rattle.sgt_model.specs.declared.reply.Reply.{Reply}
use Rattle.sgt_model.specs.Questions.{started_in, over_in}
use Rattle.sgt_session.specs.declared.receipt.Receipt.{Receipt}

-- with one more, if there is one
abbrev pub with_one : Option ℕ → List ℕ → List ℕ
with_one None own = own
with_one (Some t) own = own ++ t ∷ []

-- without this one, if there is one
abbrev pub open_without : Option ℕ → List ℕ → List ℕ
open_without None own = own
open_without (Some t) own = filter (λ u. not (nat_eq u t)) own

-- those that are open after an event with its reply
abbrev pub open_by : List ℕ → Event → Reply → List ℕ
open_by own e r = open_without (over_in e r) (with_one (started_in e r) own)

-- those that are open after more receipts
abbrev pub open_from : List ℕ → List Receipt → List ℕ
open_from own [] = own
open_from own (r ∷ rs) = open_from (open_by own r.event r.reply) rs

-- those that the session started, while no receipt of its calls that name them reports their end
abbrev pub open_of : List Receipt → List ℕ
open_of rs = open_from [] rs

-- t is one of the open transactions
abbrev pub is_open : ℕ → List ℕ → Bool
is_open t own = list_any (λ u. nat_eq u t) own

-- how many receipts must have capacity: that of the event, and one end of each transaction that is open after it.
-- Quitting an open one uses the capacity of its end
abbrev pub capacity_needed : Event → List ℕ → ℕ
capacity_needed (Start p args) own = length own + 2
capacity_needed (Step t) own = length own + 1
capacity_needed (Access t d) own = length own + 1
capacity_needed (Commit t) own = length own + 1
capacity_needed (Quit t) own = cond (is_open t own) (length own) (length own + 1)
