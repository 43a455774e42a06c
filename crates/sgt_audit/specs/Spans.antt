-- Where in a history a transaction was started and where it ended. Entries are numbered from 0, oldest first; the
-- history is listed newest first.
use Rattle.std.specs.Prelude.{◌≡◌, ℕ, ◌<◌, Bool, false, cond, nat_eq, List, [], ◌∷◌, length, Option, Some, None}
use Rattle.std.specs.Option.{is_some}
use Rattle.sgt_model.specs.declared.reply.Reply.{Reply}
use Rattle.sgt_model.specs.declared.reply.Reply.TheVariants as reply
use Rattle.sgt_model.specs.declared.entry.Entry.{Entry}
use Rattle.sgt_model.specs.Fates.{ending_in}

-- the reply starts transaction t
abbrev pub starts_as : Reply → ℕ → Bool
starts_as (reply.Started u) t = nat_eq u t
starts_as _ t = false

-- the entry that started t, if any
abbrev pub started_at : List Entry → ℕ → Option ℕ
started_at [] t = None
started_at (e ∷ past) t = cond (starts_as e.reply t) (Some (length past)) (started_at past t)

-- the entry that ended t, if any: its commit, its abort, or the abort that aborted it in cascade
abbrev pub ended_at : List Entry → ℕ → Option ℕ
ended_at [] t = None
ended_at (e ∷ past) t = cond (is_some (ending_in e.event e.reply t)) (Some (length past)) (ended_at past t)

-- the second transaction was started after the first had ended
pub record EndsBefore (past : List Entry) (first second : ℕ) : Type 0 where
  pub ended : ℕ
  pub started : ℕ
  pub first_ended : ended_at past first ≡ Some ended
  pub second_started : started_at past second ≡ Some started
  pub later : ended < started
