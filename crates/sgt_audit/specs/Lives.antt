-- What a history says of each transaction, as one table by transaction number.
use Rattle.std.specs.Prelude.{◌≡◌, ℕ, Bool, false, List, length, reverse, Option, Some, None, slice_get}
use Rattle.std.specs.Option.{option_and_then}
use Rattle.sgt_model.specs.declared.entry.Entry.{Entry}
use Rattle.sgt_model.specs.declared.reply.Fate.{Fate}
use Rattle.sgt_model.specs.Fates.{start_count, fate_of}
use Rattle.sgt_model.specs.Progress.{Call, call_at, call_of}
use Rattle.sgt_audit.specs.declared.lives.Life.{Life}
use Rattle.sgt_audit.specs.Spans.{started_at, ended_at}
use Rattle.sgt_audit.specs.Outcomes.{has_failed}

-- the call that the entry with this number requests, if it is a start
abbrev pub call_started : List Entry → ℕ → Option Call
call_started history number = option_and_then (λ (e : Entry). call_at e.event) (slice_get history number)

-- the row says what the history says of t
pub record IsLife (past : List Entry) (t : ℕ) (life : Life) : Type 0 where
  pub call : call_started (reverse past) life.started ≡ Some (call_of past t)
  pub started : started_at past t ≡ Some life.started
  pub ended : ended_at past t ≡ life.ended
  pub failed : has_failed (fate_of past t) ≡ life.failed

-- the history does not mention t
pub record NoLife (past : List Entry) (t : ℕ) : Type 0 where
  pub started : started_at past t ≡ None
  pub ended : ended_at past t ≡ None

-- a row for each transaction that was started
pub record AreLives (past : List Entry) (lives : List Life) : Type 0 where
  pub counted : length lives ≡ start_count past
  pub each : (t : ℕ) (life : Life) → slice_get lives t ≡ Some life → IsLife past t life
  pub none : (t : ℕ) → slice_get lives t ≡ None → NoLife past t

-- the row of a transaction that this entry ended
abbrev pub ended_life : ℕ → Bool → Life → Life
ended_life number failed life = record life { ended = Some number; failed = failed }

-- the row after an entry, if that entry ended its transaction in this way
abbrev pub life_after : ℕ → Option Fate → Life → Life
life_after number None life = life
life_after number (Some f) life = ended_life number (has_failed (Some f)) life

-- the row of a transaction that this entry started
abbrev pub started_life : ℕ → Life
started_life number = record { started = number; ended = None; failed = false }
