-- Calls by which transactions were started.
use Rattle.std.specs.Prelude.{ℕ, List, Option, slice_get}
use Rattle.std.specs.Option.{option_and_then}
use Rattle.sgt_model.specs.declared.entry.Entry.{Entry}
use Rattle.sgt_model.specs.Progress.{Call, call_in}

-- the call by which the entry at this position starts t, if it does
abbrev pub placed_call : List Entry → (t place : ℕ) → Option Call
placed_call entries t place = option_and_then (λ (e : Entry). call_in e.event e.reply t) (slice_get entries place)
